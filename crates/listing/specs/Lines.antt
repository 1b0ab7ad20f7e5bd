-- The lines of a listing, byte for byte.
use Rattle.std.specs.Prelude.{ℕ, List, ◌++◌, codes, decimal}
use Rattle.refusals.specs.declared.Refusal.{Refusal}
use Rattle.refusals.specs.Number.{number_of}
use Rattle.std.specs.List.{flat_map}
use Rattle.std.specs.Fmt.{signed_decimal}
use Rattle.listing.specs.Hex.{hex_text}
use Rattle.listing.specs.declared.Header.{Header}
use Rattle.listing.specs.declared.Line.{Line}

-- "rows R shared S extra X"
abbrev pub header_text : Header → List ℕ
header_text h = codes "rows " ++ (decimal h.rows ++ (codes " shared " ++ (signed_decimal h.shared ++ (codes " extra " ++ (decimal h.extra ++ codes "\n")))))

-- "C T S W": the column, its total, its slack, and the result word in hexadecimal
abbrev pub line_text : Line → List ℕ
line_text l = decimal l.column ++ (codes " " ++ (signed_decimal l.total ++ (codes " " ++ (decimal l.slack ++ (codes " " ++ (hex_text l.word ++ codes "\n"))))))

-- the header, and below it every line in order
abbrev pub listing_text : Header → List Line → List ℕ
listing_text h lines = header_text h ++ flat_map line_text lines

-- "refused N"
abbrev pub refused_text : Refusal → List ℕ
refused_text e = codes "refused " ++ (decimal (number_of e) ++ codes "\n")
