-- What the model's laws of requests and parents say of a store: ownership goes from one of its nodes to another, and
-- each parent answers for what it is asked for.
use Rattle.std.proofs.Common.{◌≡◌, inl, inr, ℕ, ◌+◌, ◌≤◌, arith, refl, ap, sym, ◌∙◌, Bool, true, false, List, [], ◌∷◌}
use Rattle.std.specs.Prelude.{◌⊎◌, Option, Some, None, IsSome, is_some}
use Rattle.std.specs.Option.{option_to_list}
use Rattle.std.proofs.lemmas.List.Sums.{sum_by-cons}
use Rattle.bmx_types.specs.declared.numbers.Mode.{Mode}
use Rattle.bmx_types.specs.declared.numbers.Mode.TheVariants as mode
use Rattle.bmx_owner.specs.declared.entering.Record.{Record}
use Rattle.bmx_protocol.specs.Nodes.{Setting, Known, share_of}
use Rattle.bmx_protocol.specs.Worlds.{World, IsHandedOver, EachParentAnswers}
use Rattle.bmx_token_model.specs.Machine.{Message, brings}
use Rattle.bmx_token_model.specs.Laws.{handovers_in}
use Rattle.bmx_token_model.proofs.Tallies.{notes, tally, tally-append, handover, handover-brings}
use Rattle.bmx_token_model.proofs.Roles.{Under, Absent, stance, stance_as, some_stance}
use Rattle.bmx_token_model.proofs.Requests.{unwanting, unwanting_as, IsRequested}
use Rattle.bmx_token_model.proofs.Parents.{IsPointed, granted_wants, granted_knows}
use Rattle.bmx_token_model.proofs.Chains.{IsChained}
use Rattle.bmx_token_model.proofs.Parents as model
use Rattle.bmx_store_laws.specs.Inside.Seen.{seen, seen_known, seen_record}
use Rattle.bmx_store_laws.proofs.Owners.{AreNodes, GoesBetween, one_if, hands_in, HandsAmong, among, moving_counted}

-- the letters that bring ownership are those that the model tallies
handovers_tallied : (letters : List Message) → tally handover (notes letters) ≡ handovers_in letters
handovers_tallied [] = refl
handovers_tallied (l ∷ letters) =
    tally-append handover (option_to_list l.note) (notes letters)
    ∙ (λ i. handover-brings l (brings l) refl i + handovers_tallied letters i)
    ∙ sym (sum_by-cons (λ (k : Message). one_if (brings k)) l letters)

handed_over : (w : World) (x from to : ℕ) → 1 ≤ tally handover (notes ((seen x w).channel from to)) → IsHandedOver w x from to
handed_over w x from to some = record {
  letter = h.letter;
  info = h.info;
  fields = h.fields;
  moves = record { there = h.there; grants = h.grants; named = h.named };
}
  where
    h : HandsAmong x (w.channel from to)
    h = among x (w.channel from to) (omega (arith, some, handovers_tallied ((seen x w).channel from to), hands_in x (w.channel from to)))

tallied : (w : World) (x from to : ℕ) → IsHandedOver w x from to → 1 ≤ tally handover (notes ((seen x w).channel from to))
tallied w x from to h = omega (arith, moving_counted w x from to h.letter h.info h.fields h.moves, handovers_tallied ((seen x w).channel from to), hands_in x (w.channel from to))

some_known : (k : Option Known) → is_some (seen_known k) ≡ true → (j : Known) × (k ≡ Some j)
some_known None e = absurd cc
some_known (Some j) e = (j, refl)

record_there : (r : Option Record) → is_some (seen_record r) ≡ true → IsSome r
record_there None e = absurd cc
record_there (Some r) e = refl

want_there : (k : Known) → unwanting mode.Write (Some (share_of k)) ≡ 0 → k.part.want ≡ Some mode.Write
want_there k e = by_want k.part.want k.part.ready e
  where
    by_want : (want : Option Mode) (ready : Bool) → unwanting_as mode.Write want ready ≡ 0 → want ≡ Some mode.Write
    by_want None ready e = absurd (omega (arith, e))
    by_want (Some m) true e = absurd (omega (arith, e))
    by_want (Some mode.Read) false e = absurd (omega (arith, e))
    by_want (Some mode.Write) false e = refl

-- ownership goes from one node of the store to another
pub between : (st : Setting) (w : World) (x : ℕ) → IsRequested (seen x w) → IsChained (seen x w) → AreNodes st w x → GoesBetween st w x
between st w x requested chained real from to one = (
  real from (some_stance ((seen x w).holds from) (λ none. (let both : Under to ≡ Absent = sym (chained.givers from to over) ∙ none in cc))),
  real to (granted_knows (seen x w) from to requested over),
)
  where
    over : 1 ≤ tally handover (notes ((seen x w).channel from to))
    over = omega (arith, one, handovers_tallied ((seen x w).channel from to), hands_in x (w.channel from to))

pub parents_answer : (st : Setting) (w : World) → ((x : ℕ) → IsPointed (seen x w)) → ((x : ℕ) → IsRequested (seen x w)) → EachParentAnswers st w
parents_answer st w pointed requested n x parent k real has = record {
  known = j.0;
  knows = j.1;
  recorded = by_answer ((pointed x).answers n parent under);
  wants = λ handed. want_there j.0 (ap (λ (i : Option Known). unwanting mode.Write (seen_known i)) (sym j.1) ∙ granted_wants (seen x w) n parent (requested x) (tallied w x n parent handed));
}
  where
    under : stance ((seen x w).holds n) ≡ Under parent
    under = ap (λ (i : Option Known). stance (seen_known i)) has.known ∙ ap stance_as has.asks

    j : (i : Known) × ((w.state parent).known x ≡ Some i)
    j = some_known ((w.state parent).known x) ((pointed x).known n parent under)

    by_answer : model.AnswersFor (seen x w) parent n → IsSome ((w.state parent).entering x n) ⊎ IsHandedOver w x n parent
    by_answer (inl recorded) = inl (record_there ((w.state parent).entering x n) recorded)
    by_answer (inr handed) = inr (handed_over w x n parent handed)
