-- The laws apply to a legal history, and fail in one that isn't.
use Rattle.bmx_store_laws.proofs.Words.{◌≡◌, refl, ap, sym, ◌∙◌, true, false, arith, drop, Some, Contains, Place, some_same, prefix_is_legal, the_anchor, told_of_the_object, told_at, one_bunch, rule, closed}
use Rattle.bmx_store_laws.proofs.Words.{Reaction, done_of, Take, laws_apply}
use Rattle.bmx_places.specs.Ledger.{HasLedger}
use Rattle.bmx_places.specs.Laws.{KnownAt, ToldIn, At, Between}
use Rattle.bmx_places.specs.Cases.{granted, LawsApply, mistold, mistold_anchor, mistold_grant, strayed, world_in, LawsFail, LawsTell}
use Rattle.bmx_places.proofs.Always.{no_letter_is_stray}

apply : LawsApply
apply = record {
  opening = laws_apply.0;
  legal = prefix_is_legal (one_bunch 2) granted.past (drop 7 told_of_the_object.past) laws_apply.1;
  letter = refl;
  told = (1, omega arith, refl);
  kept = refl;
  longer = laws_apply.1;
  takes = (_, (7, omega arith, refl), refl);
}

-- the entry of node 0, and the letter
entry : ((world_in mistold).places 0).place 1 ≡ Some the_anchor.place
entry = refl

there : Contains ((world_in mistold).channel 0 1) mistold_grant
there = (0, omega arith, refl)

no_ledger : HasLedger (one_bunch 2) (world_in mistold) → ⊥
no_ledger l =
    let at = l.belong.entries 0 1 _ refl in
    let place : at.place ≡ the_anchor.place = some_same (sym at.lies ∙ entry) in
    let told = l.belong.told 0 1 mistold_grant mistold_anchor there (0, omega arith, refl) in
    let same : at.place.address ≡ mistold_anchor.place.address = l.are.one_address _ _ _ _ at.block told refl (ap (λ (p : Place). p.moves) place) in
    absurd (omega (arith, ap (λ (p : Place). p.address) place, same))

fail : LawsFail
fail = record {
  illegal = λ legal. no_letter_is_stray (one_bunch 2) strayed.past _ laws_apply.0 legal (3, omega arith, refl) refl;
  stray = (_, (3, omega arith, refl), refl);
  ledger = no_ledger;
  shapes = λ s. (let same : (0 ≡ 0) × (32 ≡ 31) = s.shapes 1 0 32 0 31 (KnownAt 0 _ refl refl refl) (ToldIn 0 1 mistold_grant mistold_anchor there (0, omega arith, refl) refl refl refl) in absurd (omega (arith, same.1)));
  places = λ p. (let same : the_anchor.place.address ≡ mistold_anchor.place.address = p.one 1 the_anchor.place mistold_anchor.place (At 0 entry) (Between 0 1 mistold_grant mistold_anchor there (0, omega arith, refl) refl refl) refl in absurd (omega (arith, same)));
  unplaced = λ p. (let both : false ≡ true = p.placed 1 2 _ refl in cc);
  clash = λ e. (let both : true ≡ false = e in cc);
  next = (let told = told_at (one_bunch 2) 1 (mistold.nodes 1) (Take 0 mistold_grant) in let o : Reaction = rule (one_bunch 2) 1 (mistold.nodes 1).state told (Take 0 mistold_grant) in (
    done_of 4 (mistold.nodes 1).state o,
    record { state = closed 4 (mistold.nodes 1).state o; places = (mistold.nodes 1).places },
    record { told = told; is_told = record { full = refl; clash = refl; lies = λ name. refl }; outcome = refl; state = refl; places = refl },
    refl,
  ));
}

pub laws_tell : LawsTell
laws_tell = (apply, fail)
