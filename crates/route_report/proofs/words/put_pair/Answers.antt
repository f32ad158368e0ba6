use Rattle.route_report.proofs.Lasts.{put_last}
use Rattle.route_report.proofs.words.put_pair.Goals as goal

pub returns : goal.returns
returns c = put_last c.put_count.result _ _ c.in_ok-put_counted.ensures c.put_count.ensures
