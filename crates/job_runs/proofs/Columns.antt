-- Where no call of a job is refused, its readings are those of the job's own terms, column by column.
use Rattle.std.proofs.Common.{◌≡◌, ℕ, zero, suc, ◌+◌, ◌*◌, ◌<◌, ◌≤◌, true, List, ◌∷◌, ◌++◌, map, length, pos, ◌-ℤ◌, Some, None, Ok, Option, sym, refl, ap, ◌∙◌, arith, pow_pos}
use Rattle.std.specs.List.{range_with_len, AllByRecursion}
use Rattle.std.proofs.lemmas.Bool.{lt-leb}
use Rattle.refusals.specs.declared.Refusal.{Refusal}
use Rattle.refusals.specs.declared.Refusal.TheVariants.{NoSuchColumn}
use Rattle.refusals.specs.Refusing.{answer, refuse}
use Rattle.sums.specs.Terms.{Term, total, slack}
use Rattle.sums.proofs.Slack.{tells}
use Rattle.alignment.specs.Tile.{Tile}
use Rattle.runs.specs.declared.Reading.{Reading}
use Rattle.runs.specs.State.{Row, figures}
use Rattle.runs.specs.Log.{Log, fix, read, after, empty, raised, settled, with_rows, refusal, reading_of}
use Rattle.calls.specs.Lists.{Answer, answers_to, log_after}
use Rattle.jobs.specs.declared.plan.Plan.{Plan}
use Rattle.jobs.specs.Survey.{shared_of}
use Rattle.job_runs.specs.Parts.{job_setting, tile_count}
use Rattle.job_runs.specs.Terms.{job_terms}
use Rattle.job_runs.specs.Events.{survey_of, feed_of, surveys, feeds, reads, job_events, job_answers}
use Rattle.job_runs.specs.Readings.{first_refusal, readings, line_of, lines_from}
use Rattle.job_runs.specs.Listing.{job_step, job_line, Told}
use Rattle.calls.proofs.Lists.{answers_append, log_append}
use Rattle.job_runs.proofs.Counted.{map_same}
use Rattle.job_runs.proofs.Answering.{none_append}
use Rattle.job_runs.proofs.Surveying.{all_surveyed}
use Rattle.job_runs.proofs.Feeding.{RowsFrom, all_fed}

-- ---- answers that are no readings
no_reading : (o : Option Refusal) (more : List Answer) → readings (answer o None ∷ more) ≡ readings more
no_reading None more = refl
no_reading (Some r) more = refl

surveys_read : (l : Log) (words : Tile) (tile count : ℕ) (more : List Answer) → readings (answers_to l (map (survey_of words) (range_with_len tile count)) ++ more) ≡ readings more
surveys_read l words tile zero more = refl
surveys_read l words tile (suc count) more =
    no_reading (refusal l (survey_of words tile)) _ ∙ surveys_read (after l (survey_of words tile)) words (tile + 1) count more

feeds_read : (l : Log) (p : Plan) (words : Tile) (sheets : List ℕ) (tile count : ℕ) (more : List Answer) → readings (answers_to l (map (feed_of p words sheets) (range_with_len tile count)) ++ more) ≡ readings more
feeds_read l p words sheets tile zero more = refl
feeds_read l p words sheets tile (suc count) more =
    no_reading (refusal l (feed_of p words sheets tile)) _ ∙ feeds_read (after l (feed_of p words sheets tile)) p words sheets (tile + 1) count more

-- ---- the reads
columns_read : (l : Log) (column count : ℕ) → column + count ≤ l.setting.columns → readings (answers_to l (map read (range_with_len column count))) ≡ map (reading_of l) (range_with_len column count)
columns_read l column zero h = refl
columns_read l column (suc count) h =
    ap (λ b. readings (answer (refuse b NoSuchColumn) (Some (reading_of l column)) ∷ answers_to l (map read (range_with_len (column + 1) count)))) (lt-leb l.setting.columns column (omega arith))
    ∙ ap (λ rs. reading_of l column ∷ rs) (columns_read l (column + 1) count (omega arith))

reads_keep : (l : Log) (column count : ℕ) → log_after l (map read (range_with_len column count)) ≡ l
reads_keep l column zero = refl
reads_keep l column (suc count) = reads_keep l (column + 1) count

-- ---- lists by their columns
lines_map : (f : ℕ → Reading) (a n : ℕ) → lines_from a (map f (range_with_len a n)) ≡ map (λ c. line_of c (f c)) (range_with_len a n)
lines_map f a zero = refl
lines_map f a (suc n) = ap (λ ls. line_of a (f a) ∷ ls) (lines_map f (a + 1) n)

all_map : {X : Type 0} (P : X → Type 0) (f : ℕ → X) (a n : ℕ) → ((k : ℕ) → P (f k)) → AllByRecursion P (map f (range_with_len a n))
all_map P f a zero each = tt
all_map P f a (suc n) each = (each a, all_map P f (a + 1) n each)

module _ (p : Plan) (words : Tile) (sheets : List ℕ) where
  -- what a column reads by the job's terms
  abbrev pub job_reading : ℕ → Reading
  job_reading c = figures (total (job_step p words) (job_terms p words sheets c)) (slack (job_step p words) (job_terms p words sheets c)) (shared_of p words -ℤ pos p.extra)

  -- every line tells where its column's exact sum lies
  pub lines_tell : (a n : ℕ) → AllByRecursion (Told p words sheets) (map (job_line p words sheets) (range_with_len a n))
  lines_tell a n = all_map (Told p words sheets) (job_line p words sheets) a n (λ c. tells (job_step p words) (job_terms p words sheets c) (pow_pos _))

  -- the log after the surveys, and after the run is aligned
  abbrev pub surveyed_log : Log
  surveyed_log = log_after (empty (job_setting p)) (surveys words)

  -- the log after the feeds
  abbrev pub fed_log : Log
  fed_log = log_after (settled surveyed_log) (feeds p words sheets)

  -- the answers by the kinds of their calls
  abbrev pub surveys_given : List Answer
  surveys_given = answers_to (empty (job_setting p)) (surveys words)

  abbrev pub feeds_given : List Answer
  feeds_given = answers_to (settled surveyed_log) (feeds p words sheets)

  abbrev pub reads_given : List Answer
  reads_given = answers_to fed_log (reads p.columns)

  pub in_turn : job_answers p words sheets ≡ surveys_given ++ Ok None ∷ (feeds_given ++ reads_given)
  in_turn =
      answers_append (empty (job_setting p)) (surveys words) _
      ∙ ap (λ given. surveys_given ++ Ok None ∷ given) (answers_append (settled surveyed_log) (feeds p words sheets) (reads p.columns))

  module _ (accepted : first_refusal (job_answers p words sheets) ≡ None) where
    enough : length words ≤ (0 + tile_count (length words)) * 128
    enough = omega arith

    surveys_accepted : (first_refusal surveys_given ≡ None) × (first_refusal (Ok None ∷ (feeds_given ++ reads_given)) ≡ None)
    surveys_accepted = none_append surveys_given (Ok None ∷ (feeds_given ++ reads_given)) (ap first_refusal (sym in_turn) ∙ accepted)

    surveyed_as : surveyed_log ≡ raised (empty (job_setting p)) words
    surveyed_as = all_surveyed (empty (job_setting p)) words 0 (tile_count (length words)) enough surveys_accepted.0

    fed_as : (rows : List Row) × RowsFrom p sheets words 0 rows × (fed_log ≡ with_rows (settled surveyed_log) rows)
    fed_as = all_fed p sheets (settled surveyed_log) words 0 (tile_count (length words)) enough (none_append feeds_given reads_given surveys_accepted.1).0

    log_is : fed_log ≡ with_rows (settled (raised (empty (job_setting p)) words)) fed_as.0
    log_is = fed_as.2 ∙ ap (λ l. with_rows (settled l) fed_as.0) surveyed_as

    reads_as : (c : ℕ) → c < p.columns → reading_of fed_log c ≡ job_reading c
    reads_as c h =
        ap (λ l. reading_of l c) log_is
        ∙ ap (λ (ts : List Term). figures (total (job_step p words) ts) (slack (job_step p words) ts) (shared_of p words -ℤ pos p.extra)) (fed_as.1.gives c h)

    -- the readings are those of the job's terms, in the order of the columns
    pub job_readings : readings (job_answers p words sheets) ≡ map job_reading (range_with_len 0 p.columns)
    job_readings =
        ap readings in_turn
        ∙ surveys_read (empty (job_setting p)) words 0 (tile_count (length words)) (Ok None ∷ (feeds_given ++ reads_given))
        ∙ feeds_read (settled surveyed_log) p words sheets 0 (tile_count (length words)) reads_given
        ∙ columns_read fed_log 0 p.columns (rw log_is (omega arith))
        ∙ map_same (reading_of fed_log) job_reading 0 p.columns (λ c h. reads_as c (omega arith))

    -- so the lines are the job's
    pub job_lines : lines_from 0 (readings (job_answers p words sheets)) ≡ map (job_line p words sheets) (range_with_len 0 p.columns)
    job_lines = ap (lines_from 0) job_readings ∙ lines_map job_reading 0 p.columns

    -- the log at the end
    last_log : log_after (empty (job_setting p)) (job_events p words sheets) ≡ with_rows (settled (raised (empty (job_setting p)) words)) fed_as.0
    last_log =
        log_append (empty (job_setting p)) (surveys words) (fix ∷ (feeds p words sheets ++ reads p.columns))
        ∙ log_append (settled surveyed_log) (feeds p words sheets) (reads p.columns)
        ∙ reads_keep fed_log 0 p.columns
        ∙ log_is

    pub last_shared : (log_after (empty (job_setting p)) (job_events p words sheets)).shared ≡ shared_of p words
    last_shared = ap (λ l. l.shared) last_log

    pub last_aligned : (log_after (empty (job_setting p)) (job_events p words sheets)).aligned ≡ true
    last_aligned = ap (λ l. l.aligned) last_log
