use Rattle.std.proofs.Common.{◌<◌, length, arith}
use Rattle.bmx_mail.proofs.Posting.{posted}
use Rattle.bmx_mail.proofs.mail.Mail.post.Goals as goal

pub returns-clause-change : goal.returns-clause-change
returns-clause-change c =
    let small : c.args.to < 8 = omega (arith, c.get.ensures.value, c.get.ensures.bound) in
    let few : c.args.to < length c.self.inside.issued = omega (arith, c.self.told.0) in
    posted _ c.args.self.now c.give_all.new.records.list c.give_all.new.records.spare c.args.outbox.now.stamp c.args.to c.get.result c.get-2.result c.args.msg
    c.self.view_is c.get.ensures.value c.get-2.ensures.value few c.give_all.ensures.list
