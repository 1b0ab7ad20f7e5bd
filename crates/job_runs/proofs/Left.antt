-- What is left to ask of a job's words and sheets behind a tile.
use Rattle.std.proofs.Common.{◌≡◌, ℕ, suc, ◌+◌, ◌*◌, ◌/◌, ◌%◌, ◌<◌, min, List, [], ◌∷◌, ◌++◌, map, length, take, drop, pos, None, Ok, Err, Result, IfOk, sym, refl, subst, ap, ◌∙◌, ⊎_elim, add-mul, mul-zero, zero-mul, arith}
use Rattle.std.specs.List.{range_with_len}
use Rattle.std.proofs.lemmas.List.{length-append, length-map, map-append, append_assoc, append-nil, take_all, take_at, drop_at, drop_all, drop-drop}
use Rattle.std.proofs.lemmas.Bool.{cases_eq}
use Rattle.std.proofs.lemmas.Iterator.{YieldsList}
use Rattle.std.proofs.lemmas.Iterator.Splits.{YieldsList-from_shown_while}
use Rattle.std.specs.Slice.Iter.{chunks_rest, chunks_size, chunks_steps}
use Rattle.formats.specs.Coding.{Coding}
use Rattle.alignment.specs.Tile.{Tile, tile_of}
use Rattle.sheets.specs.declared.code.SheetCode.{SheetCode}
use Rattle.sheets.specs.declared.code.SheetCode.TheVariants.{Byte, Nibble, Planes}
use Rattle.sheets.specs.Code.{byte_length}
use Rattle.sheets.specs.Page.{Page}
use Rattle.runs.specs.Log.{Event, survey, fix, feed}
use Rattle.jobs.specs.declared.plan.Plan.{Plan}
use Rattle.jobs.specs.Plan.{sheet_bytes, weight_bytes}
use Rattle.job_runs.specs.Parts.{tile_count, tile_at, tile_rows, front_page, page_at}
use Rattle.job_runs.specs.Events.{survey_of, feed_of, surveys, feeds}
use Rattle.job_runs.proofs.Counted.{map_same, map_on}

-- ---- a plan with so many rows
abbrev pub sized : Plan → ℕ → Plan
sized p rows = record { rows = rows; columns = p.columns; format = p.format; sheet = p.sheet; extra = p.extra; unit = p.unit }

-- ---- the bytes of a sheet of so many rows, and of the sheets behind it
no_bytes : (code : SheetCode) (columns : ℕ) → byte_length code (0 * columns) ≡ 0
no_bytes Byte columns = zero-mul columns
no_bytes Nibble columns = ap (λ n. (n + 1) / 2) (zero-mul columns)
no_bytes (Planes planes) columns = ap (λ n. planes * ((n + 7) / 8)) (zero-mul columns) ∙ mul-zero planes

full_step : (bytes : ℕ → ℕ) (m : ℕ) → (128 + m) / 128 * bytes 128 + bytes ((128 + m) % 128) ≡ bytes 128 + (m / 128 * bytes 128 + bytes (m % 128))
full_step bytes m =
    let tiles : (128 + m) / 128 ≡ 1 + m / 128 = omega arith in
    let rest : (128 + m) % 128 ≡ m % 128 = omega arith in
    ap (λ n. n * bytes 128 + bytes ((128 + m) % 128)) tiles
    ∙ ap (λ n. (1 + m / 128) * bytes 128 + bytes n) rest
    ∙ omega (arith, add-mul 1 (m / 128) (bytes 128))

last_step : (bytes : ℕ → ℕ) (n : ℕ) → bytes 0 ≡ 0 → n < 128 → (n + 0) / 128 * bytes 128 + bytes ((n + 0) % 128) ≡ bytes n + (0 / 128 * bytes 128 + bytes (0 % 128))
last_step bytes n none h =
    let tiles : (n + 0) / 128 ≡ 0 = omega arith in
    let rest : (n + 0) % 128 ≡ n = omega arith in
    ap (λ k. k * bytes 128 + bytes ((n + 0) % 128)) tiles ∙ ap (λ k. 0 * bytes 128 + bytes k) rest ∙ omega (arith, none, zero-mul (bytes 128))

-- ---- a tile and the words behind it: the tile is full, or there are none
module _ (tile more : Tile) (some : 0 < length tile) (size : length tile ≡ min 128 (length (tile ++ more))) where
  long : length (tile ++ more) ≡ length tile + length more
  long = length-append tile more

  one_tile : tile_count (length (tile ++ more)) ≡ suc (tile_count (length more))
  one_tile = omega (arith, long)

  front : take 128 (tile ++ more) ≡ tile
  front = by more refl
    where
      by : (behind : Tile) → more ≡ behind → take 128 (tile ++ more) ≡ tile
      by [] e = ap (λ ws. take 128 (tile ++ ws)) e ∙ ap (take 128) (append-nil tile) ∙ take_all 128 tile (omega arith)
      by (w ∷ behind) e = take_at tile more 128 (omega (arith, long, ap length e))

  back : drop 128 (tile ++ more) ≡ more
  back = by more refl
    where
      by : (behind : Tile) → more ≡ behind → drop 128 (tile ++ more) ≡ more
      by [] e = drop_all 128 (tile ++ more) (omega (arith, long, ap length e)) ∙ sym e
      by (w ∷ behind) e = drop_at tile more 128 (omega (arith, long, ap length e))

  next_tile : (t : ℕ) → tile_at (tile ++ more) (t + 1) ≡ tile_at more t
  next_tile t =
      let place : 128 + t * 128 ≡ (t + 1) * 128 = omega arith in
      ap (λ n. take 128 (drop n (tile ++ more))) (sym place)
      ∙ ap (take 128) (sym (drop-drop (t * 128) 128 (tile ++ more)))
      ∙ ap (λ ws. tile_at ws t) back

  -- the first survey, and those behind it
  pub surveys_step : surveys (tile ++ more) ≡ survey tile ∷ surveys more
  surveys_step =
      ap (λ n. map (survey_of (tile ++ more)) (range_with_len 0 n)) one_tile
      ∙ ap (λ ws. survey ws ∷ map (survey_of (tile ++ more)) (range_with_len 1 (tile_count (length more)))) front
      ∙ ap (λ es. survey tile ∷ es) (map_on (survey_of (tile ++ more)) 0 (tile_count (length more))
      ∙ map_same (λ t. survey_of (tile ++ more) (t + 1)) (survey_of more) 0 (tile_count (length more)) (λ t h. ap survey (next_tile t)))

  module _ (p : Plan) (sheets : List ℕ) where
    first_page : page_at (sized p (length (tile ++ more))) sheets 0 ≡ front_page p (length tile) sheets
    first_page =
        let rows : tile_rows (length (tile ++ more)) 0 ≡ length tile = omega (arith, long) in
        ap (λ n. front_page p n (drop (0 * sheet_bytes p 128) sheets)) rows ∙ ap (λ n. front_page p (length tile) (drop n sheets)) (zero-mul (sheet_bytes p 128))

    next_page : length tile ≡ 128 → (t : ℕ) → page_at (sized p (length (tile ++ more))) sheets (t + 1) ≡ page_at (sized p (length more)) (drop (sheet_bytes p (length tile)) sheets) t
    next_page full t =
        let rows : tile_rows (length (tile ++ more)) (t + 1) ≡ tile_rows (length more) t = omega (arith, long) in
        let place : (t + 1) * sheet_bytes p 128 ≡ sheet_bytes p 128 + t * sheet_bytes p 128 = omega (arith, add-mul t 1 (sheet_bytes p 128)) in
        ap (λ n. front_page p n (drop ((t + 1) * sheet_bytes p 128) sheets)) rows
        ∙ ap (λ n. front_page p (tile_rows (length more) t) (drop n sheets)) place
        ∙ ap (front_page p (tile_rows (length more) t)) (sym (drop-drop (t * sheet_bytes p 128) (sheet_bytes p 128) sheets))
        ∙ ap (λ n. page_at (sized p (length more)) (drop (sheet_bytes p n) sheets) t) (sym full)

    -- the feeds of the tiles behind, by the tiles of all and by their own
    abbrev here : ℕ → Event
    here t = feed_of (sized p (length (tile ++ more))) (tile ++ more) sheets (t + 1)

    abbrev there : ℕ → Event
    there t = feed_of (sized p (length more)) more (drop (sheet_bytes p (length tile)) sheets) t

    behind : (rest : Tile) → more ≡ rest → map here (range_with_len 0 (tile_count (length more))) ≡ map there (range_with_len 0 (tile_count (length more)))
    behind [] e = let none = ap (λ ws. tile_count (length ws)) e in ap (λ n. map here (range_with_len 0 n)) none ∙ sym (ap (λ n. map there (range_with_len 0 n)) none)
    behind (w ∷ rest) e =
        let full : length tile ≡ 128 = omega (arith, long, ap length e) in
        map_same here there 0 (tile_count (length more)) (λ t h. ap (λ ws. feed ws (page_at (sized p (length (tile ++ more))) sheets (t + 1))) (next_tile t) ∙ ap (feed (tile_at more t)) (next_page full t))

    -- the first feed, and those behind it
    pub feeds_step : feeds (sized p (length (tile ++ more))) (tile ++ more) sheets ≡ feed tile (front_page p (length tile) sheets) ∷ feeds (sized p (length more)) more (drop (sheet_bytes p (length tile)) sheets)
    feeds_step =
        let each = feed_of (sized p (length (tile ++ more))) (tile ++ more) sheets in
        ap (λ n. map each (range_with_len 0 n)) one_tile
        ∙ ap (λ ws. feed ws (page_at (sized p (length (tile ++ more))) sheets 0) ∷ map each (range_with_len 1 (tile_count (length more)))) front
        ∙ ap (λ m. feed tile m ∷ map each (range_with_len 1 (tile_count (length more)))) first_page
        ∙ ap (λ es. feed tile (front_page p (length tile) sheets) ∷ es) (map_on each 0 (tile_count (length more)) ∙ behind more refl)

    -- the sheet of the tile, and those behind it
    pub sheets_step : weight_bytes (sized p (length (tile ++ more))) ≡ sheet_bytes p (length tile) + weight_bytes (sized p (length more))
    sheets_step = ap (λ n. weight_bytes (sized p n)) long ∙ ⊎_elim full last (cases_eq (length tile) 128)
      where
        full : length tile ≡ 128 → weight_bytes (sized p (length tile + length more)) ≡ sheet_bytes p (length tile) + weight_bytes (sized p (length more))
        full e = rw e (full_step (sheet_bytes p) (length more))

        last : (length tile ≡ 128 → ⊥) → weight_bytes (sized p (length tile + length more)) ≡ sheet_bytes p (length tile) + weight_bytes (sized p (length more))
        last e =
            let none : length more ≡ 0 = omega (arith, long) in
            let short : length tile < 128 = omega (arith, long) in
            rw none (last_step (sheet_bytes p) (length tile) (no_bytes p.sheet p.columns) short)

-- ---- the same of words that come in chunks, beside the calls that were asked before
module _ {W : Type 0} (f : Coding W) (rest tile more : List W) (size : ℕ) (parts : rest ≡ tile ++ more) (chunk : length tile ≡ min size (length rest)) (full : size ≡ 128) (some : 0 < length rest) where
  joined : tile_of f rest ≡ tile_of f tile ++ tile_of f more
  joined = ap (tile_of f) parts ∙ map-append f.decode tile more

  tile_long : length (tile_of f tile) ≡ length tile
  tile_long = length-map tile f.decode

  more_long : length (tile_of f more) ≡ length more
  more_long = length-map more f.decode

  all_long : length (tile_of f tile ++ tile_of f more) ≡ length rest
  all_long = ap length (sym joined) ∙ length-map rest f.decode

  as_some : 0 < length (tile_of f tile)
  as_some = omega (arith, tile_long)

  as_chunk : length (tile_of f tile) ≡ min 128 (length (tile_of f tile ++ tile_of f more))
  as_chunk = omega (arith, tile_long, all_long)

  -- one call more
  after_one : (done now left all : List Event) (e : Event) → now ≡ done ++ e ∷ [] → all ≡ e ∷ left → now ++ left ≡ done ++ all
  after_one done now left all e is next = ap (λ es. es ++ left) is ∙ append_assoc done (e ∷ []) left ∙ ap (λ es. done ++ es) (sym next)

  surveys_on : surveys (tile_of f rest) ≡ survey (tile_of f tile) ∷ surveys (tile_of f more)
  surveys_on = ap surveys joined ∙ surveys_step (tile_of f tile) (tile_of f more) as_some as_chunk

  module _ (p : Plan) where
    sheets_on : weight_bytes (sized p (length rest)) ≡ sheet_bytes p (length tile) + weight_bytes (sized p (length more))
    sheets_on =
        ap (λ n. weight_bytes (sized p n)) (sym all_long)
        ∙ sheets_step (tile_of f tile) (tile_of f more) as_some as_chunk p []
        ∙ ap (λ n. sheet_bytes p n + weight_bytes (sized p (length (tile_of f more)))) tile_long
        ∙ ap (λ n. sheet_bytes p (length tile) + weight_bytes (sized p n)) more_long

    pub feeds_on : (sheets : List ℕ) (m : Page) (done now : List Event) → m ≡ front_page p (length tile) sheets → now ≡ done ++ feed (tile_of f tile) m ∷ []
        → now ++ feeds (sized p (length more)) (tile_of f more) (drop (sheet_bytes p (length tile)) sheets) ≡ done ++ feeds (sized p (length rest)) (tile_of f rest) sheets
    feeds_on sheets m done now paged is =
        after_one done now (feeds (sized p (length more)) (tile_of f more) (drop (sheet_bytes p (length tile)) sheets)) (feeds (sized p (length rest)) (tile_of f rest) sheets) (feed (tile_of f tile) m) is
        (ap (λ n. feeds (sized p n) (tile_of f rest) sheets) (sym all_long)
        ∙ ap (λ ws. feeds (sized p (length (tile_of f tile ++ tile_of f more))) ws sheets) joined
        ∙ feeds_step (tile_of f tile) (tile_of f more) as_some as_chunk p sheets
        ∙ ap (λ n. feed (tile_of f tile) (front_page p n sheets) ∷ feeds (sized p (length (tile_of f more))) (tile_of f more) (drop (sheet_bytes p n) sheets)) tile_long
        ∙ ap (λ n. feed (tile_of f tile) (front_page p (length tile) sheets) ∷ feeds (sized p n) (tile_of f more) (drop (sheet_bytes p (length tile)) sheets)) more_long
        ∙ ap (λ g. feed (tile_of f tile) g ∷ feeds (sized p (length more)) (tile_of f more) (drop (sheet_bytes p (length tile)) sheets)) (sym paged))

-- the bytes do not depend on what the words mean
pub sheets_behind : {W : Type 0} (rest tile more : List W) (size : ℕ) → rest ≡ tile ++ more → length tile ≡ min size (length rest) → size ≡ 128 → 0 < length rest
    → (p : Plan) → weight_bytes (sized p (length rest)) ≡ sheet_bytes p (length tile) + weight_bytes (sized p (length more))
sheets_behind rest tile more = sheets_on (record { precision = 1; least = pos 0; greatest = pos 0; decode = λ w. None }) rest tile more

-- no words are left
none_asked : {W : Type 0} (f : Coding W) (rest : List W) → length rest ≡ 0 → surveys (tile_of f rest) ≡ []
none_asked f [] e = refl
none_asked f (w ∷ rest) e = absurd (omega arith)

pub none_fed : {W : Type 0} (f : Coding W) (rest : List W) (p : Plan) (sheets : List ℕ) → length rest ≡ 0 → feeds p (tile_of f rest) sheets ≡ []
none_fed f [] p sheets e = refl
none_fed f (w ∷ rest) p sheets e = absurd (omega arith)

-- `chunks` gives the tiles to survey
pub tiles_yielded : {W : Type 0} (f : Coding W) (s : _) (words : List W) → chunks_size s ≡ 128 → chunks_rest s ≡ words
    → YieldsList chunks_steps (λ x. survey (tile_of f x.now)) s (surveys (tile_of f words))
tiles_yielded f s words size rest =
    subst (λ ws. YieldsList chunks_steps (λ x. survey (tile_of f x.now)) s (surveys (tile_of f ws))) rest
    (YieldsList-from_shown_while chunks_steps (λ x. survey (tile_of f x.now)) (λ t. surveys (tile_of f (chunks_rest t))) (λ t. chunks_size t ≡ 128)
    (λ t u size end. ap length (none_asked f (chunks_rest t) end.1.0))
    (λ t x u size next. (next.0 ∙ size, surveys_on f (chunks_rest t) x.now (chunks_rest u) (chunks_size t) next.1.0 next.1.1 size next.1.2))
    s size)

-- what holds of a result for each f
pub for_each : {F X E : Type 0} (P : F → X → Type 0) (r : Result X E) → ((f : F) → IfOk r (P f)) → IfOk r (λ x. (f : F) → P f x)
for_each P (Ok x) h = h
for_each P (Err e) h = tt

-- surveys, fix, feeds and reads, each asked behind the others
pub in_order : (events fed fixed surveyed S F R : List Event) → events ≡ fed ++ R → fed ≡ fixed ++ F → fixed ≡ surveyed ++ fix ∷ [] → surveyed ≡ S → events ≡ S ++ fix ∷ (F ++ R)
in_order events fed fixed surveyed S F R is_read is-fed is-fixed is-surveyed =
    is_read
    ∙ ap (λ es. es ++ R) (is-fed ∙ ap (λ es. es ++ F) (is-fixed ∙ ap (λ es. es ++ fix ∷ []) is-surveyed) ∙ append_assoc S (fix ∷ []) F)
    ∙ append_assoc S (fix ∷ F) R
