-- After the feeds of all tiles, the log has the job's rows.
use Rattle.std.proofs.Common.{◌≡◌, ℕ, zero, suc, ◌+◌, ◌*◌, ◌/◌, ◌%◌, ◌<◌, ◌≤◌, Bool, List, [], ◌∷◌, ◌++◌, map, length, drop, ℤ, pos, Some, None, sym, refl, ap, ◌∙◌, add-zero, arith}
use Rattle.std.specs.List.{range_with_len}
use Rattle.std.proofs.lemmas.List.FromFn.{get_or-map-range_with_len}
use Rattle.std.proofs.lemmas.List.{append-nil, append_assoc, map-append, drop_all}
use Rattle.refusals.specs.Refusing.{unless}
use Rattle.refusals.proofs.Refusing.{none_some, both_passed}
use Rattle.sums.specs.Terms.{Term, value}
use Rattle.alignment.specs.Tile.{Tile}
use Rattle.sheets.specs.Page.{Page, line}
use Rattle.runs.specs.Checks.{row_check, rows_check, feed_check}
use Rattle.runs.specs.State.{Row, rows_of}
use Rattle.runs.specs.Log.{Log, after, with_rows, term_at}
use Rattle.calls.specs.Lists.{answers_to, log_after}
use Rattle.jobs.specs.declared.plan.Plan.{Plan}
use Rattle.job_runs.specs.Parts.{tile_at, page_at}
use Rattle.job_runs.specs.Terms.{value_of, weight_of, terms_from}
use Rattle.job_runs.specs.Events.{feed_of}
use Rattle.job_runs.specs.Readings.{first_refusal}
use Rattle.runs.proofs.Tiles.{passes}
use Rattle.job_runs.proofs.Answering.{none_cons}
use Rattle.job_runs.proofs.Surveying.{words_left, full_or_last, seam}

-- a term by its value and its weight
abbrev term : ℤ → ℤ → Term
term value weight = record { value = value; weight = weight }

-- a tile's terms in a column of its page, the page's rows being counted on from `row`
abbrev page_terms : Page → ℕ → ℕ → Tile → List Term
page_terms m column row [] = []
page_terms m column row (word ∷ words) = term (value_of word) (m.weight row column) ∷ page_terms m column (row + 1) words

-- the rows of an accepted tile give a column those terms
rows_terms : (shared : ℤ) (takes : ℤ → Bool) (m : Page) (column row : ℕ) (words : Tile) → column < m.columns
    → rows_check shared takes m row words ≡ None → map (term_at column) (rows_of m row words) ≡ page_terms m column row words
rows_terms shared takes m column row [] h e = refl
rows_terms shared takes m column row (None ∷ words) h e = absurd (none_some e refl)
rows_terms shared takes m column row (Some d ∷ words) h e =
    let rest = (both_passed (row_check shared takes row (Some d) (line m row)) (rows_check shared takes m (row + 1) words) e).1 in
    let same = get_or-map-range_with_len (m.weight row) 0 m.columns column column (pos 0) h (omega arith) in
    ap (λ w. term (value d) w ∷ map (term_at column) (rows_of m (row + 1) words)) same
    ∙ ap (λ ts. term (value d) (m.weight row column) ∷ ts) (rows_terms shared takes m column (row + 1) words h rest)

module _ (p : Plan) (sheets : List ℕ) where
  -- the rows of a tile are 128 times the tile's number and on
  tile_terms : (column tile row : ℕ) (words : Tile) → row + length words ≤ 128 → page_terms (page_at p sheets tile) column row words ≡ terms_from p sheets column (tile * 128 + row) words
  tile_terms column tile row [] h = refl
  tile_terms column tile row (word ∷ words) h =
      let quotient : tile ≡ (tile * 128 + row) / 128 = omega arith in
      let rest : row ≡ (tile * 128 + row) % 128 = omega arith in
      let place : tile * 128 + (row + 1) ≡ tile * 128 + row + 1 = omega arith in
      ap (λ t. term (value_of word) ((page_at p sheets t).weight row column) ∷ page_terms (page_at p sheets tile) column (row + 1) words) quotient
      ∙ ap (λ r. term (value_of word) ((page_at p sheets ((tile * 128 + row) / 128)).weight r column) ∷ page_terms (page_at p sheets tile) column (row + 1) words) rest
      ∙ ap (λ ts. term (value_of word) (weight_of p sheets (tile * 128 + row) column) ∷ ts) (tile_terms column tile (row + 1) words (omega arith) ∙ ap (λ r. terms_from p sheets column r words) place)

  terms_append : (column row : ℕ) (words more : Tile) → terms_from p sheets column row (words ++ more) ≡ terms_from p sheets column row words ++ terms_from p sheets column (row + length words) more
  terms_append column row [] more = ap (λ r. terms_from p sheets column r more) (sym (add-zero row))
  terms_append column row (word ∷ words) more =
      let place : row + 1 + length words ≡ row + suc (length words) = omega arith in
      ap (λ ts. term (value_of word) (weight_of p sheets row column) ∷ ts)
      (terms_append column (row + 1) words more ∙ ap (λ r. terms_from p sheets column (row + 1) words ++ terms_from p sheets column r more) place)

  -- the terms of a tile and of the words behind it
  split : (column tile : ℕ) (words : Tile) → page_terms (page_at p sheets tile) column 0 (tile_at words tile) ++ terms_from p sheets column ((tile + 1) * 128) (drop ((tile + 1) * 128) words) ≡ terms_from p sheets column (tile * 128) (drop (tile * 128) words)
  split column tile words =
      let now = tile_at words tile in
      let more = drop ((tile + 1) * 128) words in
      let left = words_left tile words in
      let size = full_or_last words tile in
      let start : tile * 128 + 0 ≡ tile * 128 = omega arith in
      let next : tile * 128 + 128 ≡ (tile + 1) * 128 = omega arith in
      ap (λ ts. ts ++ terms_from p sheets column ((tile + 1) * 128) more) (tile_terms column tile 0 now (omega arith) ∙ ap (λ r. terms_from p sheets column r now) start)
      ∙ ap (λ r. terms_from p sheets column (tile * 128) now ++ terms_from p sheets column r more) (sym next)
      ∙ ap (λ ts. terms_from p sheets column (tile * 128) now ++ ts) (sym (seam (terms_from p sheets column) (λ a b. refl) (tile * 128) now more size))
      ∙ sym (terms_append column (tile * 128) now more)
      ∙ ap (terms_from p sheets column (tile * 128)) left

  -- rows that give every column the terms of the words from a tile on
  pub record RowsFrom (words : Tile) (tile : ℕ) (rows : List Row) : Type 0 where
    pub gives : (column : ℕ) → column < p.columns → map (term_at column) rows ≡ terms_from p sheets column (tile * 128) (drop (tile * 128) words)

  -- feeds of the tiles that are left add the rows that are left
  pub all_fed : (l : Log) (words : Tile) (tile count : ℕ) → length words ≤ (tile + count) * 128
      → first_refusal (answers_to l (map (feed_of p words sheets) (range_with_len tile count))) ≡ None
      → (rows : List Row) × RowsFrom words tile rows × (log_after l (map (feed_of p words sheets) (range_with_len tile count)) ≡ with_rows l rows)
  all_fed l words tile zero h e = (
    [],
    record { gives = λ column lt. sym (ap (terms_from p sheets column (tile * 128)) (drop_all (tile * 128) words (omega arith))) },
    ap (λ fed. record { setting = l.setting; aligned = l.aligned; shared = l.shared; fed = fed }) (sym (append-nil l.fed)),
  )
  all_fed l words tile (suc count) h e =
      let m = page_at p sheets tile in
      let new = rows_of m 0 (tile_at words tile) in
      let check = feed_check l.setting l.shared (length l.fed) (tile_at words tile) m in
      let ok = none_cons check None _ e in
      let next : after l (feed_of p words sheets tile) ≡ with_rows l new = ap (λ o. unless o l (with_rows l new)) ok.0 in
      let rest = all_fed (after l (feed_of p words sheets tile)) words (tile + 1) count (omega arith) ok.1 in
      let accepted = (passes l.setting l.shared (length l.fed) (tile_at words tile) m ok.0).each in (
        new ++ rest.0,
        record {
          gives = λ column lt.
              map-append (term_at column) new rest.0
              ∙ ap (λ ts. ts ++ map (term_at column) rest.0) (rows_terms l.shared l.setting.takes m column 0 (tile_at words tile) lt accepted)
              ∙ ap (λ ts. page_terms m column 0 (tile_at words tile) ++ ts) (rest.1.gives column lt)
              ∙ split column tile words;
        },
        rest.2 ∙ ap (λ k. with_rows k rest.0) next
            ∙ ap (λ fed. record { setting = l.setting; aligned = l.aligned; shared = l.shared; fed = fed }) (append_assoc l.fed new rest.0),
      )
