use Rattle.std.proofs.Common.{◌≡◌, ℕ, ◌<◌, ◌≤◌, ◌^◌, true, false, Option, None, Some, slice_index_or, sym, ap, ◌∙◌, subst, arith, ⊎_elim}
use Rattle.std.proofs.lemmas.Bool.{cases_Bool, ltb-true}
use Rattle.bmx_mark.specs.Marks.{Marking, is_marked, next_grey}
use Rattle.bmx_mark.specs.Inside.Targets.{is_above}
use Rattle.bmx_mark.proofs.Scanning.{IsScanning, IsScanning-start, IsScanning-end, IsScanning-marked, IsScanning-greyed, has_room}
use Rattle.bmx_mark.proofs.Reaching.{IsBetween-scanned}
use Rattle.bmx_mark.proofs.mark.Mark.step.Invariants.{above}
use Rattle.bmx_mark.proofs.mark.Mark.step.Goals as goal

pub loop-target-init : goal.loop-target-init
loop-target-init g c =
    let now = c.scan_next-name.new.self in
    let marking = c.scan_next-name.ensures.marking in
    IsScanning-start (g.E.Edges.target_of c.args.edges.now) c.args.self.now now
    (ap (λ (v : Marking). v.grey) marking) (ap (λ (v : Marking). v.scanned) marking) (ap (λ (v : Marking). v.spare) marking)

pub grey-requires : goal.grey-requires
grey-requires g c =
    let target = g.E.Edges.target_of c.args.edges.now in
    let old = c.args.self.now in
    let name : c.scan_next-name.result ≡ next_grey old = c.scan_next-name.ensures.value in
    λ h. has_room target old c.loop-target.self c.loop-target.floor (λ i. slice_index_or c.targets_of-targets.result i None)
    (λ i. c.targets_of-targets.ensures.targets i ∙ ap (λ n. target n i) name)
    (λ i far. ap (λ n. target n i) (sym name) ∙ c.targets_of-targets.ensures.few i far)
    c.loop-target.invariant c.in-Some.target c.in-Some.ensures h c.requires.room

pub loop-target-preserved : goal.loop-target-preserved
loop-target-preserved g c =
    let target = g.E.Edges.target_of c.args.edges.now in
    let old = c.args.self.now in
    let now = c.loop-target.self in
    let floor = c.loop-target.floor in
    let t = c.in-Some.target in
    let name : c.scan_next-name.result ≡ next_grey old = c.scan_next-name.ensures.value in
    let f = λ (i : ℕ). slice_index_or c.targets_of-targets.result i None in
    let is = λ (i : ℕ). c.targets_of-targets.ensures.targets i ∙ ap (λ n. target n i) name in
    let few = λ (i : ℕ) (far : 32 ≤ i). ap (λ n. target n i) (sym name) ∙ c.targets_of-targets.ensures.few i far in
    subst (λ (w : ℕ). IsScanning target old c.grey.new.self (Some w)) (sym c.word.ensures.value)
    (⊎_elim
    (λ (there : is_marked now t ≡ true). subst (λ (v : Marking). IsScanning target old v (Some t)) (sym (c.grey.ensures.marked there))
    (IsScanning-marked target old now floor f is few c.loop-target.invariant t c.in-Some.ensures there))
    (λ (new_one : is_marked now t ≡ false). IsScanning-greyed target old now floor f is few c.loop-target.invariant t c.in-Some.ensures new_one c.grey.new.self (c.grey.ensures.new new_one))
    (cases_Bool (is_marked now t)))

falls : (floor : Option ℕ) (t : ℕ) → t < 2 ^ 60 → is_above floor t ≡ true → above (Some t) < above floor
falls None t low up = omega arith
falls (Some f) t low up = let a : f < t = ltb-true f t up in omega arith

pub loop-target-smaller : goal.loop-target-smaller
loop-target-smaller g c =
    let t = c.in-Some.target in
    let low : t < 2 ^ 60 = omega (arith, c.word.ensures.value, c.word.ensures.name) in
    subst (λ (w : ℕ). above (Some w) < above c.loop-target.floor) (sym c.word.ensures.value) (falls c.loop-target.floor t low c.in-Some.ensures.1)

pub returns-clause-scans : goal.returns-clause-scans
returns-clause-scans g c =
    let target = g.E.Edges.target_of c.args.edges.now in
    let old = c.args.self.now in
    let name : c.scan_next-name.result ≡ next_grey old = c.scan_next-name.ensures.value in
    IsScanning-end target old c.loop-target.self c.loop-target.floor (λ i. slice_index_or c.targets_of-targets.result i None)
    (λ i. c.targets_of-targets.ensures.targets i ∙ ap (λ n. target n i) name)
    (λ i far. ap (λ n. target n i) (sym name) ∙ c.targets_of-targets.ensures.few i far)
    c.loop-target.invariant c.in_default.ensures

pub returns-clause-between : goal.returns-clause-between
returns-clause-between g c = λ roots b. IsBetween-scanned roots (g.E.Edges.target_of c.args.edges.now) c.args.self.now c.loop-target.self c.requires.grey (returns-clause-scans g c) b
