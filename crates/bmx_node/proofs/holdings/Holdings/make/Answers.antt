use Rattle.bmx_tokens.proofs.Map.{OnErr-from}
use Rattle.bmx_node.proofs.Operating.{frame_tokens}
use Rattle.bmx_tokens.specs.Tables.{Table}
use Rattle.std.proofs.Common.{refl, ◌≡◌, ℕ, ◌+◌, Option, not, true, false, Err, IfSome, sym, ap, subst}
use Rattle.bmx_types.specs.Words.{name_word}
use Rattle.bmx_protocol.specs.Steps.{Node}
use Rattle.bmx_protocol.specs.Places.{is_full}
use Rattle.bmx_memory.specs.Shown.{shown}
use Rattle.bmx_node.specs.declared.holdings.Holdings.{Holdings}
use Rattle.bmx_node.specs.Seen.{places_of, limit_of}
use Rattle.bmx_node.proofs.Grants.{room_keeps}
use Rattle.bmx_node.proofs.Making.{reserved_node, kept_node, kept_frame, made_by, made_state, made_places, made_frame, made_keeps}
use Rattle.bmx_node.proofs.holdings.Holdings.make.Goals as goal

pub returns-in_err-reserve-clause-err : goal.returns-in_err-reserve-clause-err
returns-in_err-reserve-clause-err c = OnErr-from c.from_residual.result (reserved_node c.args.self.now c.reserve.new.self c.reserve.ensures.rest)

pub returns-in_err-reserve-clause-keeps : goal.returns-in_err-reserve-clause-keeps
returns-in_err-reserve-clause-keeps c =
    let h : Holdings = c.args.self.now in
    room_keeps h (record h { tokens = c.reserve.new.self }) (ap (λ (t : Table). record h { tokens = t }) c.reserve.ensures.rest, refl) c.requires.keeps

pub returns-in-Err-Full-clause-keeps : goal.returns-in-Err-Full-clause-keeps
returns-in-Err-Full-clause-keeps c =
    let h : Holdings = c.args.self.now in
    room_keeps h (record h { memory = c.make.new.self; tokens = c.reserve.new.self }) (ap (λ (t : Table). record h { memory = c.make.new.self; tokens = t }) c.reserve.ensures.rest, c.in-Err-Full.ensures.err) c.requires.keeps

pub returns-in-Err-NoMemory-clause-keeps : goal.returns-in-Err-NoMemory-clause-keeps
returns-in-Err-NoMemory-clause-keeps c =
    let h : Holdings = c.args.self.now in
    room_keeps h (record h { memory = c.make.new.self; tokens = c.reserve.new.self }) (ap (λ (t : Table). record h { memory = c.make.new.self; tokens = t }) c.reserve.ensures.rest, c.in-Err-NoMemory.ensures.err) c.requires.keeps

pub returns-in_err-reserve-clause-frame : goal.returns-in_err-reserve-clause-frame
returns-in_err-reserve-clause-frame c = frame_tokens c.args.self.now c.reserve.new.self c.args.self.now.mail

pub returns-in-Err-NoMemory-clause-err : goal.returns-in-Err-NoMemory-clause-err
returns-in-Err-NoMemory-clause-err c = kept_node c.args.self.now c.reserve.new.self c.make.new.self c.reserve.ensures.rest c.in-Err-NoMemory.ensures.err

pub returns-in-Err-NoMemory-clause-frame : goal.returns-in-Err-NoMemory-clause-frame
returns-in-Err-NoMemory-clause-frame c = kept_frame c.args.self.now c.reserve.new.self c.make.new.self c.in-Err-NoMemory.ensures.err

fitting : (h : Holdings) (bunch size : ℕ) → is_full (shown h.memory).limit (shown h.memory).places bunch size ≡ false → is_full (limit_of h) (places_of h) bunch size ≡ false
unfolding limit_of places_of
fitting h bunch size e = e

filled : (h : Holdings) (bunch size : ℕ) → is_full (shown h.memory).limit (shown h.memory).places bunch size ≡ true → is_full (limit_of h) (places_of h) bunch size ≡ true
unfolding limit_of places_of
filled h bunch size e = e

pub returns-in-Err-Full-clause-fits : goal.returns-in-Err-Full-clause-fits
returns-in-Err-Full-clause-fits c =
    let full : is_full (limit_of c.args.self.now) (places_of c.args.self.now) c.args.bunch c.args.size ≡ true = filled c.args.self.now c.args.bunch c.args.size (c.in-Err-Full.ensures.full (ap Err c.in-Err-Full.field-0-is)) in
    ap not (sym full)

pub returns-in-Err-Full-clause-state : goal.returns-in-Err-Full-clause-state
returns-in-Err-Full-clause-state c = ap (λ (n : Node). n.state) (kept_node c.args.self.now c.reserve.new.self c.make.new.self c.reserve.ensures.rest c.in-Err-Full.ensures.err)

pub returns-in-Err-Full-clause-places : goal.returns-in-Err-Full-clause-places
returns-in-Err-Full-clause-places c = ap (λ (n : Node). n.places) (kept_node c.args.self.now c.reserve.new.self c.make.new.self c.reserve.ensures.rest c.in-Err-Full.ensures.err)

pub returns-in-Err-Full-clause-frame : goal.returns-in-Err-Full-clause-frame
returns-in-Err-Full-clause-frame c = kept_frame c.args.self.now c.reserve.new.self c.make.new.self c.in-Err-Full.ensures.err

pub returns-clause-fits : goal.returns-clause-fits
returns-clause-fits c =
    let fits : is_full (limit_of c.args.self.now) (places_of c.args.self.now) c.args.bunch c.args.size ≡ false = fitting c.args.self.now c.args.bunch c.args.size c.in-Ok.ensures.fits in
    ap not (sym fits)

pub returns-clause-state : goal.returns-clause-state
returns-clause-state c =
    let name : ℕ = c.unwrap-name.result in
    let named : name ≡ name_word c.args.self.now.me (c.args.self.now.made + 1) = subst (λ (o : Option ℕ). IfSome o (λ x. x ≡ name_word c.args.self.now.me (c.args.self.now.made + 1))) c.unwrap-name.ensures c.new.ensures.value in
    made_state c.args.self.now _ name c.args.register c.args.bunch c.args.size (made_by c.args.self.now c.reserve.new.self c.add.new.self c.make.new.self c.set_register.new.self name c.args.register c.args.bunch c.args.size c.owner.result named c.reserve.ensures.rest c.owner.ensures c.add.ensures.part c.add.ensures.me c.in-Ok.ensures.ok c.set_register.ensures.shown)

pub returns-clause-places : goal.returns-clause-places
returns-clause-places c =
    let name : ℕ = c.unwrap-name.result in
    let named : name ≡ name_word c.args.self.now.me (c.args.self.now.made + 1) = subst (λ (o : Option ℕ). IfSome o (λ x. x ≡ name_word c.args.self.now.me (c.args.self.now.made + 1))) c.unwrap-name.ensures c.new.ensures.value in
    made_places c.args.self.now _ name c.args.register c.args.bunch c.args.size c.requires.keeps (made_by c.args.self.now c.reserve.new.self c.add.new.self c.make.new.self c.set_register.new.self name c.args.register c.args.bunch c.args.size c.owner.result named c.reserve.ensures.rest c.owner.ensures c.add.ensures.part c.add.ensures.me c.in-Ok.ensures.ok c.set_register.ensures.shown)

pub returns-clause-keeps : goal.returns-clause-keeps
returns-clause-keeps c =
    let name : ℕ = c.unwrap-name.result in
    let named : name ≡ name_word c.args.self.now.me (c.args.self.now.made + 1) = subst (λ (o : Option ℕ). IfSome o (λ x. x ≡ name_word c.args.self.now.me (c.args.self.now.made + 1))) c.unwrap-name.ensures c.new.ensures.value in
    made_keeps c.args.self.now _ name c.args.register c.args.bunch c.args.size c.requires.few (made_by c.args.self.now c.reserve.new.self c.add.new.self c.make.new.self c.set_register.new.self name c.args.register c.args.bunch c.args.size c.owner.result named c.reserve.ensures.rest c.owner.ensures c.add.ensures.part c.add.ensures.me c.in-Ok.ensures.ok c.set_register.ensures.shown) c.requires.keeps

pub returns-clause-frame : goal.returns-clause-frame
returns-clause-frame c =
    let name : ℕ = c.unwrap-name.result in
    let named : name ≡ name_word c.args.self.now.me (c.args.self.now.made + 1) = subst (λ (o : Option ℕ). IfSome o (λ x. x ≡ name_word c.args.self.now.me (c.args.self.now.made + 1))) c.unwrap-name.ensures c.new.ensures.value in
    made_frame c.args.self.now _ name c.args.register c.args.bunch c.args.size (made_by c.args.self.now c.reserve.new.self c.add.new.self c.make.new.self c.set_register.new.self name c.args.register c.args.bunch c.args.size c.owner.result named c.reserve.ensures.rest c.owner.ensures c.add.ensures.part c.add.ensures.me c.in-Ok.ensures.ok c.set_register.ensures.shown)
