-- The calls that a job is worked by.
use Rattle.std.specs.Prelude.{ℕ, List, ◌∷◌, ◌++◌, map, length}
use Rattle.std.specs.List.{range_with_len}
use Rattle.formats.specs.Coding.{Coding}
use Rattle.alignment.specs.Tile.{Tile}
use Rattle.sheets.specs.Meanings.{AnySheet, any_meaning}
use Rattle.runs.specs.Log.{Event, survey, fix, feed, read, empty}
use Rattle.calls.specs.declared.Call.{Call}
use Rattle.calls.specs.Lists.{Answer, answers_to}
use Rattle.calls.specs.Work.{event_of}
use Rattle.jobs.specs.declared.plan.Plan.{Plan}
use Rattle.job_runs.specs.Parts.{job_setting, tile_count, tile_at, page_at}

-- the survey of a tile
abbrev pub survey_of : Tile → ℕ → Event
survey_of words tile = survey (tile_at words tile)

-- a tile is fed with its page
abbrev pub feed_of : Plan → Tile → List ℕ → ℕ → Event
feed_of p words sheets tile = feed (tile_at words tile) (page_at p sheets tile)

-- every tile is surveyed
abbrev pub surveys : Tile → List Event
surveys words = map (survey_of words) (range_with_len 0 (tile_count (length words)))

-- every tile is fed
abbrev pub feeds : Plan → Tile → List ℕ → List Event
feeds p words sheets = map (feed_of p words sheets) (range_with_len 0 (tile_count (length words)))

-- every column is read
abbrev pub reads : ℕ → List Event
reads columns = map read (range_with_len 0 columns)

-- the calls of a job: all surveys, fix, all feeds, and all reads
abbrev pub job_events : Plan → Tile → List ℕ → List Event
job_events p words sheets = surveys words ++ fix ∷ (feeds p words sheets ++ reads p.columns)

-- what they answer
abbrev pub job_answers : Plan → Tile → List ℕ → List Answer
job_answers p words sheets = answers_to (empty (job_setting p)) (job_events p words sheets)

-- calls of the code as events, by what a format makes of their words
abbrev pub events_of : {W : Type 0} → Coding W → List (Call W AnySheet) → List Event
events_of f calls = map (event_of f any_meaning) calls
