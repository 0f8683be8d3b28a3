use Rattle.std.proofs.Common.{◌≡◌, ℕ, ◌+◌, ◌<◌, ◌≤◌, ◌^◌, List, ◌∷◌, filter_map, sym, ◌∙◌, ap, subst, refl, arith}
use Rattle.bmx_tokens.specs.Tables.{Table}
use Rattle.bmx_protocol.specs.Rules.{info_in}
use Rattle.bmx_mail.specs.Mails.{MailState, taken_of}
use Rattle.bmx_node.specs.declared.holdings.Holdings.{Holdings}
use Rattle.bmx_node.specs.Seen.{node_of}
use Rattle.bmx_node.specs.Inside.Keeping.{Keeps, Frame}
use Rattle.bmx_node.specs.Inside.Reacting.{grant_msg}
use Rattle.bmx_node.specs.Inside.Hearing.{CanHear, Rooms}
use Rattle.bmx_node.proofs.Operating.{keeps_mail, frame_tokens}
use Rattle.bmx_node.proofs.Bringing.{frame_after}
use Rattle.bmx_node.proofs.Grants.{OnErr-from, grant_can, grant_size, room_node, room_keeps, room_frame, room_can, room_taken, room_took, room_there, room_awaits, rooms_for, granted_can, granted_keeps, granted_there, granted_rooms, granted_took}
use Rattle.bmx_node.proofs.holdings.Holdings.take_grant.Goals as goal

pub returns-in_err-make_room-clause-err : goal.returns-in_err-make_room-clause-err
returns-in_err-make_room-clause-err c = OnErr-from _ (room_node c.args.self.now c.make_room.new.self c.make_room.ensures.rest)

pub returns-in_err-make_room-clause-keeps : goal.returns-in_err-make_room-clause-keeps
returns-in_err-make_room-clause-keeps c = room_keeps c.args.self.now c.make_room.new.self c.make_room.ensures.rest c.requires.keeps

pub returns-in_err-make_room-clause-frame : goal.returns-in_err-make_room-clause-frame
returns-in_err-make_room-clause-frame c = room_frame c.args.self.now c.make_room.new.self c.make_room.ensures.rest

pub returns-in_err-_taken-clause-err : goal.returns-in_err-_taken-clause-err
returns-in_err-_taken-clause-err c =
    let r = c.make_room.new.self in
    OnErr-from _ (subst (λ (t : Table). node_of (record r { tokens = t }) ≡ node_of c.args.self.now) (sym c.in_err-_taken.ensures.err) (room_node c.args.self.now r c.make_room.ensures.rest))

pub returns-in_err-_taken-clause-keeps : goal.returns-in_err-_taken-clause-keeps
returns-in_err-_taken-clause-keeps c =
    let r = c.make_room.new.self in
    subst (λ (t : Table). Keeps (record r { tokens = t })) (sym c.in_err-_taken.ensures.err) (room_keeps c.args.self.now r c.make_room.ensures.rest c.requires.keeps)

pub returns-in_err-_taken-clause-frame : goal.returns-in_err-_taken-clause-frame
returns-in_err-_taken-clause-frame c =
    let h = c.args.self.now in
    let r = c.make_room.new.self in
    frame_after h r (record r { tokens = c.granted.new.self }) (room_frame h r c.make_room.ensures.rest) (frame_tokens r c.granted.new.self r.mail)

pub bring-requires-clause-keeps : goal.bring-requires-clause-keeps
bring-requires-clause-keeps c =
    let h = c.args.self.now in
    let r = c.make_room.new.self in
    let only = c.make_room.ensures.rest in
    let info = c.args.info.now in
    let fields = c.args.fields.now in
    let from = c.args.taking.from in
    let can : CanHear h from (info ∷ filter_map info_in fields) = grant_can h from c.args.mode info fields c.requires.can in
    granted_keeps c.args.taking.stamp r from c.args.taking.seq c.args.mode info fields (room_keeps h r only c.requires.keeps) (room_can h r only from (info ∷ filter_map info_in fields) can)
    (room_there h r only info.name c.requires.there) (room_awaits h r only info.name from c.args.mode c.requires.awaits) c.granted.new.self c.in_ok-_taken.ensures.part

pub bring-requires-clause-there : goal.bring-requires-clause-there
bring-requires-clause-there c =
    let h = c.args.self.now in
    let r = c.make_room.new.self in
    let only = c.make_room.ensures.rest in
    let info = c.args.info.now in
    let fields = c.args.fields.now in
    let from = c.args.taking.from in
    let can : CanHear h from (info ∷ filter_map info_in fields) = grant_can h from c.args.mode info fields c.requires.can in
    granted_there c.args.taking.stamp r from c.args.taking.seq c.args.mode info fields (room_keeps h r only c.requires.keeps) (room_can h r only from (info ∷ filter_map info_in fields) can)
    (room_there h r only info.name c.requires.there) (room_awaits h r only info.name from c.args.mode c.requires.awaits) c.granted.new.self c.in_ok-_taken.ensures.part

pub bring-requires-clause-can : goal.bring-requires-clause-can
bring-requires-clause-can c =
    let h = c.args.self.now in
    let r = c.make_room.new.self in
    let only = c.make_room.ensures.rest in
    let info = c.args.info.now in
    let fields = c.args.fields.now in
    let from = c.args.taking.from in
    let can : CanHear h from (info ∷ filter_map info_in fields) = grant_can h from c.args.mode info fields c.requires.can in
    granted_can c.args.taking.stamp r from c.args.taking.seq c.args.mode info fields (room_keeps h r only c.requires.keeps) (room_can h r only from (info ∷ filter_map info_in fields) can)
    (room_there h r only info.name c.requires.there) (room_awaits h r only info.name from c.args.mode c.requires.awaits) c.granted.new.self c.in_ok-_taken.ensures.part

pub bring-requires-clause-size : goal.bring-requires-clause-size
bring-requires-clause-size c = grant_size c.args.self.now c.args.taking.from c.args.mode c.args.info.now c.args.fields.now c.requires.can

pub bring-requires-clause-rooms : goal.bring-requires-clause-rooms
bring-requires-clause-rooms c =
    let h = c.args.self.now in
    let r = c.make_room.new.self in
    let only = c.make_room.ensures.rest in
    let info = c.args.info.now in
    let fields = c.args.fields.now in
    let from = c.args.taking.from in
    let can : CanHear h from (info ∷ filter_map info_in fields) = grant_can h from c.args.mode info fields c.requires.can in
    granted_rooms c.args.taking.stamp r from c.args.taking.seq c.args.mode info fields (room_keeps h r only c.requires.keeps) (room_can h r only from (info ∷ filter_map info_in fields) can)
    (room_there h r only info.name c.requires.there) (room_awaits h r only info.name from c.args.mode c.requires.awaits) c.granted.new.self c.in_ok-_taken.ensures.part _
    (rooms_for r c.in_ok-names.names fields c.as_slice.result.now c.as_slice.ensures c.in_ok-names.ensures c.in_ok-make_room.ensures.rooms)

pub note_grant-requires-clause-room : goal.note_grant-requires-clause-room
note_grant-requires-clause-room c = λ write.
    let records : c.records_brought.result ≡ 1 = c.records_brought.ensures write in
    let has : c.records_brought.result ≤ c.bring.new.self.mail.spare = subst (λ (m : MailState). c.records_brought.result ≤ m.spare) (sym c.bring.ensures.mail) c.in_ok-make_room.ensures.records in
    omega (arith, records, has)

pub note_grant-requires-clause-count : goal.note_grant-requires-clause-count
note_grant-requires-clause-count c =
    let from = c.args.taking.from in
    let same : taken_of c.bring.new.self.mail from ≡ taken_of c.args.self.now.mail from = ap (λ (m : MailState). taken_of m from) c.bring.ensures.mail ∙ room_taken c.args.self.now c.make_room.new.self c.make_room.ensures.rest from in
    subst (λ (n : ℕ). n + 1 < 2 ^ 64) (sym same) (subst (λ (n : ℕ). n < 2 ^ 64) c.requires.next.0 c.requires.next.1)

pub returns-clause-takes : goal.returns-clause-takes
returns-clause-takes c =
    let h = c.args.self.now in
    let r = c.make_room.new.self in
    let only = c.make_room.ensures.rest in
    let info = c.args.info.now in
    let fields = c.args.fields.now in
    let from = c.args.taking.from in
    let can : CanHear h from (info ∷ filter_map info_in fields) = grant_can h from c.args.mode info fields c.requires.can in
    rw c.tell.ensures (room_took h r only c.args.taking.stamp from c.args.taking.seq (grant_msg c.args.mode info fields) _ (record c.bring.new.self { mail = c.note_grant.new.mail })
    (granted_took c.args.taking.stamp r from c.args.taking.seq c.args.mode info fields (room_keeps h r only c.requires.keeps) (room_can h r only from (info ∷ filter_map info_in fields) can)
    (room_there h r only info.name c.requires.there) (room_awaits h r only info.name from c.args.mode c.requires.awaits) c.granted.new.self c.in_ok-_taken.ensures.part
    c.bring.new.self c.note_grant.new.mail c.bring.ensures.state c.bring.ensures.places c.note_grant.ensures))

pub returns-clause-keeps : goal.returns-clause-keeps
returns-clause-keeps c = keeps_mail c.bring.new.self c.note_grant.new.mail c.bring.ensures.keeps

pub returns-clause-frame : goal.returns-clause-frame
returns-clause-frame c =
    let h = c.args.self.now in
    let r = c.make_room.new.self in
    let one : Holdings = record r { tokens = c.granted.new.self } in
    frame_after h c.bring.new.self (record c.bring.new.self { mail = c.note_grant.new.mail })
    (frame_after h one c.bring.new.self (frame_after h r one (room_frame h r c.make_room.ensures.rest) (frame_tokens r c.granted.new.self r.mail)) c.bring.ensures.frame)
    (frame_tokens c.bring.new.self c.bring.new.self.tokens c.note_grant.new.mail)
