-- The laws, over every legal history.
use Rattle.bmx_store_laws.proofs.Words.{◌≡◌, ℕ, refl, ap, sym, subst, ◌∙◌, false, cond, List, ◌∷◌, ◌<◌, arith, inl, inr, ◌≢◌, option_map, Option, Some, ◌||◌, Contains, IsSome, IsOpening, Info, Place, Letter, Transition}
use Rattle.bmx_store_laws.proofs.Words.{note_transition, some_same, none_some, in_flight, AreAfter, IsLegal, Setting, NodeState, share_of, only, name_in, note_in, took, infos, Node, IsStep, some_clash, world_of, World, Event, Done, Take}
use Rattle.bmx_store_laws.proofs.Words.{some_or_none, every_there, along_history}
use Rattle.bmx_store_laws.proofs.Words.answer
use Rattle.bmx_places.specs.Ledger.{Block, block_at, block_of, LiesIn, IsOf, HasLedger}
use Rattle.bmx_places.specs.Laws.{HasShape, KnownAt, ToldIn, HasPlace, At, Between, NoLetterIsStray, PlacesAgree, ShapesAgree}
use Rattle.bmx_places.specs.Laws as law
use Rattle.bmx_places.proofs.Blocks.{hears_all, IsTold}
use Rattle.bmx_places.proofs.Kept.{Kept, one_more}
use Rattle.bmx_places.proofs.Next.{IsTakeable, next_is_takeable, flight_right}
use Rattle.bmx_places.proofs.Opened.{first_kept}

kept_after : (st : Setting) (history : List Event) (nodes : ℕ → Node) → IsOpening st.nodes st.limit st.births → IsLegal st history → AreAfter st history nodes → Kept st history nodes
kept_after st history nodes opening = along_history st (Kept st) (λ past nodes e n ev kept. one_more st past nodes e n opening ev.legal ev.reached ev.step ev.fits kept) (first_kept st opening) history nodes

-- ## letters in flight

module _ (st : Setting) (history : List Event) (nodes : ℕ → Node) (opening : IsOpening st.nodes st.limit st.births) (legal : IsLegal st history) (after : AreAfter st history nodes) where
  k : Kept st history nodes
  k = kept_after st history nodes opening legal after

  abbrev w : World
  w = world_of nodes history

  info_told : (n m : ℕ) (l : Letter) (info : Info) → Contains (in_flight n m history) l → Contains (infos l.msg) info → IsTold k.blocks info
  info_told n m l info there within = every_there (IsTold k.blocks) (infos l.msg) info (flight_right k.blocks history k.letters n m l there).right.told within

  pub blocks_are_kept : HasLedger st w
  blocks_are_kept = record {
    blocks = k.blocks;
    are = k.are;
    belong = record {
      entries = λ n x j e. ((k.each n).keeps.known x).lies j e;
      headers = λ n a h e. (k.each n).keeps.headers a h e;
      records = λ n x m r e. (k.each n).records x m r e;
      told = info_told;
    };
  }

  -- a shape is that of a block
  shaped : (x bunch size : ℕ) → HasShape w x bunch size → (a : ℕ) × (b : Block) × (k.blocks a ≡ Some b) × (b.name ≡ x) × (b.bunch ≡ bunch) × (b.size ≡ size)
  shaped x bunch size (KnownAt n j e b s) =
      let l : LiesIn k.blocks ((nodes n).places.place x) x j = ((k.each n).keeps.known x).lies j e in
      (l.place.address, block_at x j l.place, l.block, refl, b, s)
  shaped x bunch size (ToldIn n m l info there within named b s) = (info.place.address, block_of info, info_told n m l info there within, named, b, s)

  pub one_shape : law.ShapesAgree w
  one_shape = record {
    shapes = λ x bunch size ob os h g. (let a = shaped x bunch size h in let c = shaped x ob os g in
        let same : (a.1.bunch ≡ c.1.bunch) × (a.1.size ≡ c.1.size) = k.are.one_shape a.0 c.0 a.1 c.1 a.2 c.2 (a.3 ∙ sym c.3) in
        (sym a.4 ∙ same.0 ∙ c.4, sym a.5 ∙ same.1 ∙ c.5));
    records = λ n m x bunch size r e h. (let a = shaped x bunch size h in let of : IsOf k.blocks x r.bunch = (k.each n).records x m r e in
        sym of.of ∙ (k.are.one_shape of.address a.0 of.block a.1 of.there a.2 (of.named ∙ sym a.3)).0 ∙ a.4);
  }

  -- a place is that of a block
  abbrev Lying : ℕ → Place → Type 0
  Lying x p = (b : Block) × (k.blocks p.address ≡ Some b) × (b.name ≡ x) × (b.moves ≡ p.moves)

  lying : (x : ℕ) (p : Place) → HasPlace w x p → Lying x p
  lying x p (At n e) = elim (some_or_none ((nodes n).state.known x)) [
    | inl none ↦ none_some (sym (((k.each n).keeps.known x).unplaced none) ∙ e)
    | inr j ↦ (let l : LiesIn k.blocks ((nodes n).places.place x) x j.0 = ((k.each n).keeps.known x).lies j.0 j.1 in
        subst (Lying x) (some_same (sym l.lies ∙ e)) (block_at x j.0 l.place, l.block, refl, refl))
  ]
  lying x p (Between n m l info there within named at) = subst (Lying x) at (block_of info, info_told n m l info there within, named, refl)

  pub one_place : law.PlacesAgree w
  one_place = record {
    one = λ x p q h g moves. (let a = lying x p h in let c = lying x q g in
        k.are.one_address p.address q.address a.0 c.0 a.1 c.1 (a.2 ∙ sym c.2) (a.3 ∙ moves ∙ sym c.3));
    newest = λ x p q h g. (let a = lying x p h in omega (arith, a.3, k.still p.address a.0 a.1));
    placed = λ n x j e. subst IsSome (sym (((k.each n).keeps.known x).lies j e).lies) refl;
  }

  pub no_info_clashes : (from me : ℕ) (l : Letter) → Contains (in_flight from me history) l → some_clash me from (nodes me).state.known (nodes me).places (infos l.msg) ≡ false
  no_info_clashes from me l there = (hears_all st w k.blocks k.are me from (infos l.msg) (nodes me).state (nodes me).places (flight_right k.blocks history k.letters from me l there).right.told (k.each me).keeps (λ n. refl)).0

  pub next_is_taken : (from me stamp : ℕ) (l : Letter) (rest : List Letter) (done : Done) (then : Node) → from < st.nodes → me < st.nodes → in_flight from me history ≡ l ∷ rest →
      IsStep st me (nodes me) stamp (Take from l) done then → done.answer ≡ answer.Nil
  next_is_taken from me stamp l rest done then real real_me first step =
      let t : IsTakeable st k.blocks me from (nodes me) l = next_is_takeable st history nodes opening legal after k.blocks k.are k.still me from (k.each me).keeps k.letters l rest first real_me real in
      ap (λ (d : Done). d.answer) step.outcome
      ∙ (λ i. (cond (t.good i || (step.is_told.clash ∙ t.calm) i) (only answer.Stray) (took s step.told.lies from l.seq l.msg (s.known (name_in l.msg)) (note_transition me from (note_in l.msg) (option_map share_of (s.known (name_in l.msg)))))).answer)
      ∙ ap (λ (o : Option Transition). (took s step.told.lies from l.seq l.msg (s.known (name_in l.msg)) o).answer) t.turns
    where
      s : NodeState
      s = (nodes me).state

pub no_letter_is_stray : NoLetterIsStray
no_letter_is_stray st history e opening legal there =
    every_there (λ (f : Event). f.done.answer ≢ answer.Stray) history e (kept_after st history legal.steps.0 opening legal legal.steps.1).answers there
