use Rattle.std.proofs.Common.{◌≡◌, ℕ, cond, nat_cmp, Some, None, sym, subst, refl, length, arith}
use Rattle.std.specs.BTreeMap.{get}
use Rattle.std.specs.Ordering.{is_eq}
use Rattle.bmx_image.specs.declared.gathering.Mentions.{Mentions}
use Rattle.bmx_image.specs.Inside.Mentions.{IsMention}
use Rattle.bmx_image.proofs.Mentioning.{mention_new}
use Rattle.bmx_image.proofs.gathering.Mentions.mention.Goals as goal

pub returns : goal.returns
returns c =
    let old = c.args.self.now in
    let name = c.args.name in
    let word = c.word-word.ensures.value in
    let place : c.len-place.result ≡ length old.names.items = omega (arith, c.len-place.ensures, old.names.ok.0) in
    let none : get nat_cmp old.places name ≡ None = subst (λ (w : ℕ). get nat_cmp old.places w ≡ None) word (sym c.in_default.ensures.value) in
    let map : (q : ℕ) → get nat_cmp c.insert.new.self q ≡ cond (is_eq (nat_cmp name q)) (Some (length old.names.items)) (get nat_cmp old.places q) =
    subst (λ (w : ℕ). (q : ℕ) → get nat_cmp c.insert.new.self q ≡ cond (is_eq (nat_cmp w q)) (Some (length old.names.items)) (get nat_cmp old.places q)) word
    (subst (λ (i : ℕ). (q : ℕ) → get nat_cmp c.insert.new.self q ≡ cond (is_eq (nat_cmp c.word-word.result q)) (Some i) (get nat_cmp old.places q)) place c.in_ok-insert.ensures.updates.0) in
    let new : Mentions = record { home = old.home; names = c.push.new.self; places = c.insert.new.self } in
    subst (λ (i : ℕ). IsMention old new name i) (sym place) (mention_new old new name c.requires none c.in_ok-push.ensures.items map refl)
