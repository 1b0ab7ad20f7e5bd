-- The first call of a job that is refused: the survey of the first word that is not finite, or else the feed of the first
-- weight that the unit does not take.
use Rattle.std.proofs.Common.{◌≡◌, ℕ, zero, suc, ◌+◌, ◌-◌, ◌*◌, ◌/◌, ◌%◌, ◌≤◌, min, false, List, [], ◌∷◌, ◌++◌, map, length, drop, ℤ, ◌≤ℤ◌, IfSome, Some, None, Ok, Option, sym, refl, ap, ◌∙◌, add-zero, arith}
use lib.Signed.{lt_z}
use Rattle.std.specs.List.{range_with_len, AllByRecursion}
use Rattle.std.proofs.ByRecursion.{All-take, All-drop}
use Rattle.std.proofs.lemmas.List.{length-append, length-take, length-drop, drop_all}
use Rattle.std.proofs.lemmas.Int.{ints}
use Rattle.std.proofs.lemmas.Bool.{lt-leb, le-ltb}
use Rattle.refusals.specs.declared.Refusal.{Refusal}
use Rattle.refusals.specs.declared.Refusal.TheVariants.{NotFinite, AboveShared, WeightNotTakenAt, TooManyWords, NoSuchColumn}
use Rattle.refusals.specs.Refusing.{answer, refuse, first, unless}
use Rattle.refusals.proofs.Refusing.{none_some, first_assoc, first_none, same_behind}
use Rattle.alignment.specs.Tile.{Tile, not_finite, survey_check, largest}
use Rattle.alignment.specs.Cutting.{word_check}
use Rattle.alignment.proofs.Surveying.{is_largest}
use Rattle.sheets.specs.Page.{Page, line}
use Rattle.units.specs.Meaning.{untaken}
use Rattle.runs.specs.Checks.{rows_check, feed_check}
use Rattle.runs.specs.State.{rows_of}
use Rattle.runs.specs.Log.{Log, Event, survey, fix, feed, read, clear, after, empty, raised, settled, with_rows, refusal, reading_of}
use Rattle.runs.proofs.Tiles.{feed_in_rows}
use Rattle.calls.specs.Lists.{answers_to, log_after}
use Rattle.jobs.specs.declared.plan.Plan.{Plan}
use Rattle.jobs.specs.Survey.{coding_of, tiles_check}
use Rattle.job_runs.specs.Parts.{job_setting, takes_of, tile_count, tile_at, tile_rows, page_at}
use Rattle.job_runs.specs.Events.{survey_of, feed_of, surveys, feeds, job_answers}
use Rattle.job_runs.specs.Readings.{first_refusal}
use Rattle.job_runs.specs.Refused.{weights_of, weights_check, run_check}
use Rattle.job_runs.proofs.Answering.{first_append, first_cons}
use Rattle.job_runs.proofs.Surveying.{words_left, full_or_last, seam, all_surveyed}
use Rattle.job_runs.proofs.Columns.{surveyed_log, fed_log, surveys_given, feeds_given, reads_given, in_turn}

-- ---- a tile, and the words behind it
tile_few : (words : Tile) (tile : ℕ) → length (tile_at words tile) ≤ 128
tile_few words tile = omega (arith, length-take 128 (drop (tile * 128) words))

-- checks that go through the words row by row, in tiles
module _ (check : ℕ → Tile → Option Refusal) (nil : (a b : ℕ) → check a [] ≡ check b [])
    (append : (row : ℕ) (tile more : Tile) → check row (tile ++ more) ≡ first (check row tile) (check (row + length tile) more)) where
  -- the check of the words from a tile on: that of the tile, and then that of the words behind it
  in_tiles : (words : Tile) (tile : ℕ) → check (tile * 128) (drop (tile * 128) words) ≡ first (check (tile * 128) (tile_at words tile)) (check ((tile + 1) * 128) (drop ((tile + 1) * 128) words))
  in_tiles words tile =
      let here = tile_at words tile in
      let more = drop ((tile + 1) * 128) words in
      let next : tile * 128 + 128 ≡ (tile + 1) * 128 = omega arith in
      ap (check (tile * 128)) (sym (words_left tile words)) ∙ append (tile * 128) here more
      ∙ ap (first (check (tile * 128) here)) (seam check nil (tile * 128) here more (full_or_last words tile) ∙ ap (λ r. check r more) next)

-- ---- surveys
words_append : (row : ℕ) (tile more : Tile) → tiles_check row (tile ++ more) ≡ first (tiles_check row tile) (tiles_check (row + length tile) more)
words_append row [] more = ap (λ r. tiles_check r more) (sym (add-zero row))
words_append row (None ∷ tile) more = refl
words_append row (Some d ∷ tile) more =
    let same : row + 1 + length tile ≡ row + suc (length tile) = omega arith in
    words_append (row + 1) tile more ∙ ap (λ r. first (tiles_check (row + 1) tile) (tiles_check r more)) same

-- the rows of a tile are counted from 0
in_tile : (tile row : ℕ) (words : Tile) → row + length words ≤ 128 → not_finite row words ≡ tiles_check (tile * 128 + row) words
in_tile tile row [] h = refl
in_tile tile row (None ∷ words) h = let same : row ≡ (tile * 128 + row) % 128 = omega arith in ap (λ r. Some (NotFinite r)) same
in_tile tile row (Some d ∷ words) h =
    let same : tile * 128 + (row + 1) ≡ tile * 128 + row + 1 = omega arith in
    in_tile tile (row + 1) words (omega arith) ∙ ap (λ r. tiles_check r words) same

-- a survey is refused for the first word of its tile that is not finite
survey_as : (words : Tile) (tile : ℕ) → survey_check (tile_at words tile) ≡ tiles_check (tile * 128) (tile_at words tile)
survey_as words tile =
    let here = tile_at words tile in
    let start : tile * 128 + 0 ≡ tile * 128 = omega arith in
    ap (λ b. first (refuse b TooManyWords) (not_finite 0 here)) (le-ltb 128 (length here) (tile_few words tile))
    ∙ in_tile tile 0 here (omega (arith, tile_few words tile)) ∙ ap (λ r. tiles_check r here) start

-- surveys of the tiles that are left are refused for the first word that is left and not finite
surveys_refused : (l : Log) (words : Tile) (tile count : ℕ) → length words ≤ (tile + count) * 128
    → first_refusal (answers_to l (map (survey_of words) (range_with_len tile count))) ≡ tiles_check (tile * 128) (drop (tile * 128) words)
surveys_refused l words tile zero h = sym (ap (tiles_check (tile * 128)) (drop_all (tile * 128) words (omega arith)))
surveys_refused l words tile (suc count) h =
    first_cons (survey_check (tile_at words tile)) None _
    ∙ ap (λ o. first o (first_refusal (answers_to (after l (survey_of words tile)) (map (survey_of words) (range_with_len (tile + 1) count))))) (survey_as words tile)
    ∙ ap (first (tiles_check (tile * 128) (tile_at words tile))) (surveys_refused (after l (survey_of words tile)) words (tile + 1) count (omega arith))
    ∙ sym (in_tiles tiles_check (λ a b. refl) words_append words tile)

-- ---- words that the surveys found finite
-- every word is finite, and its exponent is not above the shared one
abbrev Lined : ℤ → Tile → Type 0
Lined shared words = AllByRecursion (λ word. (row : ℕ) → word_check shared row word ≡ None) words

le_int_lt : (a b : ℤ) → b ≤ℤ a → lt_z a b ≡ false
le_int_lt a b h = grind (arith, ints)

-- words that are finite are lined up by their largest exponent
lined : (shared : ℤ) (row : ℕ) (words : Tile) → tiles_check row words ≡ None → AllByRecursion (λ word. IfSome word (λ d. d.2 ≤ℤ shared)) words → Lined shared words
lined shared row [] e above = tt
lined shared row (None ∷ words) e above = absurd (none_some e refl)
lined shared row (Some d ∷ words) e above = (λ r. ap (λ b. refuse b (AboveShared r)) (le_int_lt shared d.2 above.0), lined shared (row + 1) words e above.1)

-- ---- feeds
-- a tile gives at most one row for each word
rows_few : (m : Page) (row : ℕ) (words : Tile) → length (rows_of m row words) ≤ length words
rows_few m row [] = omega arith
rows_few m row (None ∷ words) = omega (arith, rows_few m (row + 1) words)
rows_few m row (Some d ∷ words) = omega (arith, rows_few m (row + 1) words)

module _ (p : Plan) (sheets : List ℕ) where
  weights_append : (row : ℕ) (tile more : Tile) → weights_check p sheets row (tile ++ more) ≡ first (weights_check p sheets row tile) (weights_check p sheets (row + length tile) more)
  weights_append row [] more = ap (λ r. weights_check p sheets r more) (sym (add-zero row))
  weights_append row (word ∷ tile) more =
      let own = untaken (takes_of p.unit) (WeightNotTakenAt (row % 128)) 0 (weights_of p sheets row) in
      let same : row + 1 + length tile ≡ row + suc (length tile) = omega arith in
      ap (first own) (weights_append (row + 1) tile more ∙ ap (λ r. first (weights_check p sheets (row + 1) tile) (weights_check p sheets r more)) same)
      ∙ first_assoc own _ _

  -- rows whose words are lined up are refused for their weights alone; the rows of a tile are counted from 0
  rows_as : (shared : ℤ) (tile row : ℕ) (words : Tile) → Lined shared words → row + length words ≤ 128
      → rows_check shared (takes_of p.unit) (page_at p sheets tile) row words ≡ weights_check p sheets (tile * 128 + row) words
  rows_as shared tile row [] up h = refl
  rows_as shared tile row (word ∷ words) up h =
      let takes = takes_of p.unit in
      let quotient : tile ≡ (tile * 128 + row) / 128 = omega arith in
      let rest : row ≡ (tile * 128 + row) % 128 = omega arith in
      let place : tile * 128 + (row + 1) ≡ tile * 128 + row + 1 = omega arith in
      let later = rows_check shared takes (page_at p sheets tile) (row + 1) words in
      ap (λ o. first (first o (untaken takes (WeightNotTakenAt row) 0 (line (page_at p sheets tile) row))) later) (up.0 row)
      ∙ ap (λ t. first (untaken takes (WeightNotTakenAt row) 0 (line (page_at p sheets t) row)) later) quotient
      ∙ ap (λ r. first (untaken takes (WeightNotTakenAt r) 0 (line (page_at p sheets ((tile * 128 + row) / 128)) r)) later) rest
      ∙ ap (first (untaken takes (WeightNotTakenAt ((tile * 128 + row) % 128)) 0 (weights_of p sheets (tile * 128 + row))))
      (rows_as shared tile (row + 1) words up.1 (omega arith) ∙ ap (λ r. weights_check p sheets r words) place)

  module _ (words : Tile) (sized : length words ≡ p.rows) (few : p.rows ≤ 4096) where
    -- a tile has as many words as its page has rows
    tile_size : (tile : ℕ) → length (tile_at words tile) ≡ tile_rows p.rows tile
    tile_size tile = length-take 128 (drop (tile * 128) words) ∙ ap (min 128) (length-drop (tile * 128) words ∙ ap (λ n. n - tile * 128) sized)

    -- a feed of a tile that is lined up is refused for its weights alone
    feed_as : (shared : ℤ) (rows tile : ℕ) → Lined shared words → rows + (p.rows - tile * 128) ≤ p.rows
        → feed_check (job_setting p) shared rows (tile_at words tile) (page_at p sheets tile) ≡ weights_check p sheets (tile * 128) (tile_at words tile)
    feed_as shared rows tile up room =
        let here = tile_at words tile in
        let size = tile_size tile in
        let start : tile * 128 + 0 ≡ tile * 128 = omega arith in
        feed_in_rows (job_setting p) shared rows here (page_at p sheets tile) (tile_few words tile) size refl (omega (arith, size))
        ∙ rows_as shared tile 0 here (All-take _ 128 (drop (tile * 128) words) (All-drop _ (tile * 128) words up)) (omega (arith, tile_few words tile))
        ∙ ap (λ r. weights_check p sheets r here) start

    -- feeds of the tiles that are left are refused for the weights that are left; the unit has room, since the rows fed and those left are no more than the plan's
    feeds_refused : (l : Log) (tile count : ℕ) → l.setting ≡ job_setting p → Lined l.shared words → length l.fed + (p.rows - tile * 128) ≤ p.rows → p.rows ≤ (tile + count) * 128
        → first_refusal (answers_to l (map (feed_of p words sheets) (range_with_len tile count))) ≡ weights_check p sheets (tile * 128) (drop (tile * 128) words)
    feeds_refused l tile zero set up room h = sym (ap (weights_check p sheets (tile * 128)) (drop_all (tile * 128) words (omega arith)))
    feeds_refused l tile (suc count) set up room h =
        let here = tile_at words tile in
        let m = page_at p sheets tile in
        let new = rows_of m 0 here in
        let more = map (feed_of p words sheets) (range_with_len (tile + 1) count) in
        let check = feed_check l.setting l.shared (length l.fed) here m in
        let is : check ≡ weights_check p sheets (tile * 128) here = ap (λ z. feed_check z l.shared (length l.fed) here m) set ∙ feed_as l.shared (length l.fed) tile up room in
        let room_left : length (l.fed ++ new) + (p.rows - (tile + 1) * 128) ≤ p.rows = omega (arith, length-append l.fed new, rows_few m 0 here, tile_size tile) in
        first_cons check None _
        ∙ same_behind check _ _ (λ ok. ap (λ o. first_refusal (answers_to (unless o l (with_rows l new)) more)) ok ∙ feeds_refused (with_rows l new) (tile + 1) count set up room_left (omega arith))
        ∙ ap (λ o. first o (weights_check p sheets ((tile + 1) * 128) (drop ((tile + 1) * 128) words))) is
        ∙ sym (in_tiles (weights_check p sheets) (λ a b. refl) weights_append words tile)

-- ---- reads
-- columns that are there are read
reads_accepted : (l : Log) (column count : ℕ) → column + count ≤ l.setting.columns → first_refusal (answers_to l (map read (range_with_len column count))) ≡ None
reads_accepted l column zero h = refl
reads_accepted l column (suc count) h =
    ap (λ b. first_refusal (answer (refuse b NoSuchColumn) (Some (reading_of l column)) ∷ answers_to l (map read (range_with_len (column + 1) count)))) (lt-leb l.setting.columns column (omega arith))
    ∙ reads_accepted l (column + 1) count (omega arith)

-- ---- the setting
unless_kept : (o : Option Refusal) (l m : Log) → m.setting ≡ l.setting → (unless o l m).setting ≡ l.setting
unless_kept None l m e = e
unless_kept (Some r) l m e = refl

-- no call changes the setting
call_keeps : (l : Log) (e : Event) → (after l e).setting ≡ l.setting
call_keeps l (survey words) = unless_kept (survey_check words) l (raised l words) refl
call_keeps l fix = refl
call_keeps l (feed words sheet) = unless_kept (refusal l (feed words sheet)) l (with_rows l (rows_of sheet 0 words)) refl
call_keeps l (read column) = refl
call_keeps l clear = refl

calls_keep : (l : Log) (es : List Event) → (log_after l es).setting ≡ l.setting
calls_keep l [] = refl
calls_keep l (e ∷ es) = calls_keep (after l e) es ∙ call_keeps l e

-- ---- all calls of a job
module _ (p : Plan) (words : Tile) (sheets : List ℕ) (sized : length words ≡ p.rows) (few : p.rows ≤ 4096) where
  -- the surveys are refused for the first word that is not finite
  surveys_as : first_refusal (surveys_given p words sheets) ≡ tiles_check 0 words
  surveys_as = surveys_refused (empty (job_setting p)) words 0 (tile_count (length words)) (omega arith)

  -- where none is, the feeds are refused for the first weight that is not taken
  feeds_as : tiles_check 0 words ≡ None → first_refusal (feeds_given p words sheets) ≡ weights_check p sheets 0 words
  feeds_as finite =
      let least = (coding_of p.format).least in
      ap (λ l. first_refusal (answers_to (settled l) (feeds p words sheets))) (all_surveyed (empty (job_setting p)) words 0 (tile_count (length words)) (omega arith) (surveys_as ∙ finite))
      ∙ feeds_refused p sheets words sized few (settled (raised (empty (job_setting p)) words)) 0 (tile_count (length words)) refl
      (lined (largest least words) 0 words finite (is_largest least words).above) (omega arith) (omega arith)

  -- and the reads are not refused
  reads_as : first_refusal (reads_given p words sheets) ≡ None
  reads_as =
      let set = calls_keep (settled (surveyed_log p words sheets)) (feeds p words sheets) ∙ calls_keep (empty (job_setting p)) (surveys words) in
      let columns : (fed_log p words sheets).setting.columns ≡ p.columns = ap (λ z. z.columns) set in
      reads_accepted (fed_log p words sheets) 0 p.columns (omega (arith, columns))

  -- the first refusal among all answers is the first of the words and the weights
  pub refused_as : first_refusal (job_answers p words sheets) ≡ run_check p words sheets
  refused_as =
      let given = feeds_given p words sheets in
      let last = reads_given p words sheets in
      ap first_refusal (in_turn p words sheets)
      ∙ first_append (surveys_given p words sheets) (Ok None ∷ (given ++ last))
      ∙ ap (λ o. first o (first_refusal (given ++ last))) surveys_as
      ∙ same_behind (tiles_check 0 words) _ _ (λ finite. first_append given last ∙ ap (first (first_refusal given)) reads_as ∙ first_none (first_refusal given) ∙ feeds_as finite)
