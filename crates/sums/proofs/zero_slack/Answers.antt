use Rattle.sums.proofs.Slack.{none_lost, none_slack}
use Rattle.sums.proofs.zero_slack.Goals as goal

pub returns : goal.returns
returns c = λ s ts. (none_lost s ts, none_slack s ts)
