use Rattle.std.proofs.Common.{◌≡◌, ℕ, List, length, map, min, sym, ap, subst, ◌∙◌}
use Rattle.std.specs.Prelude.{slice_index, IsSomeAnd}
use Rattle.bmx_types.specs.declared.values.Val.{Val}
use Rattle.bmx_msg.specs.declared.letters.Field.{Field}
use Rattle.bmx_segment.specs.Stores.{Lays}
use Rattle.bmx_segment.specs.Heaps.{Heap}
use Rattle.bmx_segment.specs.declared.headers.Header.{Header}
use Rattle.bmx_segment.specs.declared.headers.State.TheVariants.{Live}
use Rattle.bmx_replica.specs.Layouts.{moves_in, kinds_of}
use Rattle.bmx_replica.specs.Replicas.{Holding, entry_of, word_in}
use Rattle.bmx_replica.specs.Letters.{value_told, values_told}
use Rattle.bmx_replica.specs.Inside.Replicas.{IsFound, AreHeld}
use Rattle.bmx_replica.specs.declared.directory.Slot.{Slot}
use Rattle.bmx_replica.specs.contracts.replica.Replica.{the_view}
use Rattle.bmx_replica.proofs.Standing.{IsReplica-stands}
use Rattle.bmx_replica.proofs.Fielded.{entry_at-found}
use Rattle.bmx_replica.proofs.Done.{spare_same}
use Rattle.bmx_replica.proofs.Installing.{length-mapped, Stands-installed, Installs-done}
use Rattle.bmx_replica.proofs.replica.Replica.install.Goals as goal

pub invariant_of-self : goal.invariant_of-self
invariant_of-self c =
    let r : Holding = the_view c.self.inside in
    let s : Slot = c.in-Some.found.slot in
    let h : Header = c.in-Some.found.header in
    let F : Holding → Type 0 = λ x. IsFound x.slots x.heap.blocks c.args.name s h in
    let f : F r = subst F (sym c.self.view_is) c.in-Some.ensures.found in
    let next : Holding = record { slots = c.set.new.self.slots; heap = c.lay.new.self; spare = min c.set.new.self.spare c.lay.new.self.spare } in
    let fields : List Val = values_told c.args.fields.now in
    let moves : c.in-Live.moves ≡ moves_in h.state = sym (ap moves_in c.in-Live.is) in
    let K : List Field → Type 0 = λ l. c.words_told-kinds.result.0 ≡ kinds_of (map (word_in c.args.self.now) (values_told l)) in
    let same : K c.args.fields.now = subst K c.as_slice.ensures c.words_told-kinds.ensures.kinds in
    let kinds : c.words_told-kinds.result.0 ≡ kinds_of (map (word_in r) fields) = same ∙ ap (λ (x : Holding). kinds_of (map (word_in x) fields)) (sym c.self.view_is) in
    let Z : ℕ → Type 0 = λ m. Lays r.heap.blocks c.lay.new.self.blocks s.address (record h { state = Live m c.words_told-kinds.result.0 }) (λ j. slice_index c.words_told-kinds.result.1 j) in
    let Y : ℕ → Type 0 = λ k. Lays r.heap.blocks c.lay.new.self.blocks s.address (record h { state = Live (moves_in h.state) k }) (λ j. slice_index c.words_told-kinds.result.1 j) in
    let lays = subst Y kinds (subst Z moves c.in-Ok.ensures.laid) in
    let V : List Field → Type 0 = λ l. AreHeld c.args.self.now (values_told l) c.words_told-kinds.result.1 in
    let A : Holding → Type 0 = λ x. AreHeld x fields c.words_told-kinds.result.1 in
    let held : A r = subst A (sym c.self.view_is) (subst V c.as_slice.ensures c.words_told-kinds.ensures.words) in
    let E : Holding → Type 0 = λ x. IsSomeAnd (entry_of x c.args.name) (λ e. length c.args.fields.now ≡ e.size) in
    let all : E r = subst E (sym c.self.view_is) c.requires.size in
    let size : length c.args.fields.now ≡ h.size = rw (entry_at-found r.slots r.heap.blocks c.args.name s h f) at all in
    let st = Stands-installed r next c.args.name fields c.words_told-kinds.result.1 s h c.self.invariant.1 f c.set.ensures.slots lays c.in-Ok.ensures.apart held (length-mapped value_told c.args.fields.now ∙ size) in
    (c.self.invariant.0 ∙ sym (ap (λ (x : Heap). x.me) c.in-Ok.ensures.rest), IsReplica-stands r.slots next.slots r.heap.blocks next.heap.blocks c.args.name _ _ st, c.in-Ok.ensures.apart)

pub returns : goal.returns
returns c =
    let r : Holding = the_view c.self.inside in
    let s : Slot = c.in-Some.found.slot in
    let h : Header = c.in-Some.found.header in
    let F : Holding → Type 0 = λ x. IsFound x.slots x.heap.blocks c.args.name s h in
    let f : F r = subst F (sym c.self.view_is) c.in-Some.ensures.found in
    let next : Holding = record { slots = c.set.new.self.slots; heap = c.lay.new.self; spare = min c.set.new.self.spare c.lay.new.self.spare } in
    let fields : List Val = values_told c.args.fields.now in
    let moves : c.in-Live.moves ≡ moves_in h.state = sym (ap moves_in c.in-Live.is) in
    let K : List Field → Type 0 = λ l. c.words_told-kinds.result.0 ≡ kinds_of (map (word_in c.args.self.now) (values_told l)) in
    let same : K c.args.fields.now = subst K c.as_slice.ensures c.words_told-kinds.ensures.kinds in
    let kinds : c.words_told-kinds.result.0 ≡ kinds_of (map (word_in r) fields) = same ∙ ap (λ (x : Holding). kinds_of (map (word_in x) fields)) (sym c.self.view_is) in
    let Z : ℕ → Type 0 = λ m. Lays r.heap.blocks c.lay.new.self.blocks s.address (record h { state = Live m c.words_told-kinds.result.0 }) (λ j. slice_index c.words_told-kinds.result.1 j) in
    let Y : ℕ → Type 0 = λ k. Lays r.heap.blocks c.lay.new.self.blocks s.address (record h { state = Live (moves_in h.state) k }) (λ j. slice_index c.words_told-kinds.result.1 j) in
    let lays = subst Y kinds (subst Z moves c.in-Ok.ensures.laid) in
    let V : List Field → Type 0 = λ l. AreHeld c.args.self.now (values_told l) c.words_told-kinds.result.1 in
    let A : Holding → Type 0 = λ x. AreHeld x fields c.words_told-kinds.result.1 in
    let held : A r = subst A (sym c.self.view_is) (subst V c.as_slice.ensures c.words_told-kinds.ensures.words) in
    let E : Holding → Type 0 = λ x. IsSomeAnd (entry_of x c.args.name) (λ e. length c.args.fields.now ≡ e.size) in
    let all : E r = subst E (sym c.self.view_is) c.requires.size in
    let size : length c.args.fields.now ≡ h.size = rw (entry_at-found r.slots r.heap.blocks c.args.name s h f) at all in
    rw (← c.self.view_is) (Installs-done r next c.args.name fields c.words_told-kinds.result.1 s h c.self.invariant.1 f c.set.ensures.slots lays c.in-Ok.ensures.apart held (length-mapped value_told c.args.fields.now ∙ size) c.in-Ok.ensures.rest (spare_same _ _ _ _ c.set.ensures.spare (ap (λ (x : Heap). x.spare) c.in-Ok.ensures.rest)))
