use Rattle.bmx_script.proofs.LineFeeds.{first_feed}
use Rattle.bmx_script.proofs.scripts.line_feed_in.Goals as goal

pub returns-clause-found : goal.returns-clause-found
returns-clause-found c = first_feed c.args.bytes.now c.memchr.result c.memchr.ensures
