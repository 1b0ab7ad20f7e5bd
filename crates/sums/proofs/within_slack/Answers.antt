use Rattle.sums.proofs.Slack.{tells}
use Rattle.sums.proofs.within_slack.Goals as goal

pub returns : goal.returns
returns c = tells
