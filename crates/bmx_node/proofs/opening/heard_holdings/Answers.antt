use Rattle.std.proofs.Common.{refl}
use Rattle.bmx_node.proofs.Starting.{heard_opens}
use Rattle.bmx_node.proofs.opening.heard_holdings.Goals as goal

pub returns : goal.returns
returns c =
    heard_opens c.args.opening.now _ c.args.me c.requires.other c.requires.there refl c.requires.bunches refl c.in_ok-memory.ensures c.in_ok-tokens.ensures.me c.in_ok-tokens.ensures.parts
    c.in_ok-mail.ensures.entering c.in_ok-mail.ensures.issued c.in_ok-mail.ensures.taken refl refl
