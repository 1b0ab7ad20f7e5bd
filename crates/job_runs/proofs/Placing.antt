-- No call of a job is misplaced.
use Rattle.std.proofs.Common.{◌≡◌, ℕ, zero, suc, ◌+◌, true, false, List, ◌++◌, map, length, None, refl}
use Rattle.std.specs.List.{range_with_len}
use Rattle.alignment.specs.Tile.{Tile}
use Rattle.runs.specs.Log.{Event, read}
use Rattle.calls.specs.Lists.{misplaced}
use Rattle.jobs.specs.declared.plan.Plan.{Plan}
use Rattle.job_runs.specs.Parts.{tile_count}
use Rattle.job_runs.specs.Events.{survey_of, feed_of, job_events}

module _ (p : Plan) (words : Tile) (sheets : List ℕ) where
  surveys_placed : (place tile count : ℕ) (more : List Event) → ((q : ℕ) → misplaced q false more ≡ None) → misplaced place false (map (survey_of words) (range_with_len tile count) ++ more) ≡ None
  surveys_placed place tile zero more placed = placed place
  surveys_placed place tile (suc count) more placed = surveys_placed (place + 1) (tile + 1) count more placed

  feeds_placed : (place tile count : ℕ) (more : List Event) → ((q : ℕ) → misplaced q true more ≡ None) → misplaced place true (map (feed_of p words sheets) (range_with_len tile count) ++ more) ≡ None
  feeds_placed place tile zero more placed = placed place
  feeds_placed place tile (suc count) more placed = feeds_placed (place + 1) (tile + 1) count more placed

  reads_placed : (place column count : ℕ) → misplaced place true (map read (range_with_len column count)) ≡ None
  reads_placed place column zero = refl
  reads_placed place column (suc count) = reads_placed (place + 1) (column + 1) count

  pub none_misplaced : misplaced 0 false (job_events p words sheets) ≡ None
  none_misplaced =
      surveys_placed 0 0 (tile_count (length words)) _ (λ q.
      feeds_placed (q + 1) 0 (tile_count (length words)) _ (λ r. reads_placed r 0 p.columns))
