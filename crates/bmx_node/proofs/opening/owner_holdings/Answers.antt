use Rattle.std.proofs.Common.{◌≡◌, IfSome, ap, refl, subst, ◌∙◌}
use Rattle.bmx_protocol.specs.Nodes.{first_entering}
use Rattle.bmx_node.specs.Openings.{setting_of}
use Rattle.bmx_node.proofs.Starting.{owner_opens}
use Rattle.bmx_node.proofs.opening.owner_holdings.Goals as goal

pub returns : goal.returns
returns c =
    let zero : c.unwrap-me.result ≡ 0 = subst (λ o. IfSome o (λ n. n ≡ 0)) c.unwrap-me.ensures c.new.ensures.value in
    owner_opens c.args.opening.now _ refl c.requires.bunches zero c.requires.born c.in_ok-tokens.ensures.me c.in_ok-tokens.ensures.parts
    (c.in_ok-mail.ensures.entering ∙ ap (first_entering (setting_of c.args.opening.now)) zero) c.in_ok-mail.ensures.issued c.in_ok-mail.ensures.taken refl c.len.ensures
