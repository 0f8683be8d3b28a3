use Rattle.std.proofs.Common.{◌≡◌, ◌≢◌, ℕ, ◌+◌, List, Some, get_or, sym, ap, subst, refl, ◌∙◌}
use Rattle.std.specs.Prelude.{if◌then◌else◌}
use Rattle.std.proofs.lemmas.Bool.{eq-eqb, ne_eqb}
use Rattle.bmx_types.specs.declared.addresses.Place.{Place}
use Rattle.bmx_segment.specs.Blocks.{Block}
use Rattle.bmx_segment.specs.Stores.{header_at, word_at, Sets, Lays}
use Rattle.bmx_segment.specs.declared.headers.Header.{Header}
use Rattle.bmx_segment.specs.declared.headers.State.TheVariants.{Live, Forwarded}
use Rattle.bmx_replica.specs.Layouts.{kinds_in}
use Rattle.bmx_replica.proofs.Laid.{Lays-words}
use Rattle.bmx_replica.proofs.Spaced.{AreApart-set}
use Rattle.bmx_replica.proofs.replica.re_place.Goals as goal

-- where the old header still stands, and where the new one does
still : (old mid : List Block) (to a : ℕ) (x h : Header) (f : ℕ → ℕ) → Lays old mid to x f → a ≢ to → header_at old a ≡ Some h → header_at mid a ≡ Some h
still old mid to a x h f lays off there = lays.headers a ∙ ap (λ b. if b then Some x else header_at old a) (ne_eqb to a (λ e. off (sym e))) ∙ there

now_there : (old mid : List Block) (to : ℕ) (x : Header) (f : ℕ → ℕ) → Lays old mid to x f → header_at mid to ≡ Some x
now_there old mid to x f lays = lays.headers to ∙ ap (λ b. if b then Some x else header_at old to) (eq-eqb to to refl)

pub forward-requires : goal.forward-requires
forward-requires c =
    let h : Header = c.args.found.now.header in
    let a : ℕ = c.args.found.now.slot.address in
    let old : List Block = c.args.segments.now.blocks in
    let mid : List Block = c.lay.new.self.blocks in
    let there : header_at mid a ≡ Some h = still old mid c.args.to.address a _ h _ c.in_ok-lay.ensures.laid c.requires.apart c.requires.found.there in
    let here = now_there old mid c.args.to.address _ _ c.in_ok-lay.ensures.laid in
    rw (there, here) refl

pub returns-clause-moved : goal.returns-clause-moved
returns-clause-moved c =
    let h : Header = c.args.found.now.header in
    let to : Place = c.args.to in
    let a : ℕ = c.args.found.now.slot.address in
    let old : List Block = c.args.segments.now.blocks in
    let mid : List Block = c.lay.new.self.blocks in
    let new : List Block = c.forward.new.self.blocks in
    let lays = c.in_ok-lay.ensures.laid in
    let there : header_at mid a ≡ Some h = still old mid to.address a _ h _ lays c.requires.apart c.requires.found.there in
    let S : Type 0 = Sets mid new a (record h { state = Forwarded to.address }) in
    let sets : S = rw there at c.forward.ensures.set in
    let kinds : c.in-Live.kinds ≡ kinds_in h.state = sym (ap kinds_in c.in-Live.is) in
    let f : ℕ → ℕ = λ i. get_or c.field_words-words.result i 0 in
    let P : ℕ → Type 0 = λ k. Lays old mid to.address (record h { state = Live to.moves k }) f in
    record {
      mid = mid;
      lays = Lays-words old mid to.address (record h { state = Live to.moves (kinds_in h.state) }) f (λ i. word_at old (a + 4 + i)) c.field_words-words.ensures (subst P kinds lays);
      forwards = sets;
    }

pub returns-clause-apart : goal.returns-clause-apart
returns-clause-apart c =
    let h : Header = c.args.found.now.header in
    let a : ℕ = c.args.found.now.slot.address in
    let old : List Block = c.args.segments.now.blocks in
    let mid : List Block = c.lay.new.self.blocks in
    let new : List Block = c.forward.new.self.blocks in
    let there : header_at mid a ≡ Some h = still old mid c.args.to.address a _ h _ c.in_ok-lay.ensures.laid c.requires.apart c.requires.found.there in
    let S : Type 0 = Sets mid new a (record h { state = Forwarded c.args.to.address }) in
    let sets : S = rw there at c.forward.ensures.set in
    AreApart-set mid new a h (Forwarded c.args.to.address) c.in_ok-lay.ensures.apart there sets
