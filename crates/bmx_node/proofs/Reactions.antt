-- What reactions come to.
use Rattle.std.proofs.lemmas.List.Sums.{fold-append}
use Rattle.std.proofs.Common.{◌≡◌, ℕ, if◌then◌else◌, List, [], ◌∷◌, ◌++◌, Option, Some, None, is_some, refl, sym, ◌∙◌, ap, subst}
use Rattle.std.specs.List.{flat_map}
use Rattle.bmx_types.specs.declared.addresses.Place.{Place}
use Rattle.bmx_token.specs.declared.parts.Part.{Part}
use Rattle.bmx_token.specs.Transitions.{Operation, Share, Send, transition_of, with_token, saying}
use Rattle.bmx_protocol.specs.declared.inputs.NodeAnswer.{NodeAnswer}
use Rattle.bmx_protocol.specs.declared.inputs.Sending.{Sending}
use Rattle.bmx_protocol.specs.declared.views.ViewField.{ViewField}
use Rattle.bmx_protocol.specs.Nodes.{NodeState, Known, share_of}
use Rattle.bmx_protocol.specs.Changes.{Change, Knows, after_changes, after_change}
use Rattle.bmx_protocol.specs.Rules.{Draft, Reaction, only, drafts_of, with_share, operation_answer, after_operation, operation_rule}
use Rattle.bmx_protocol.specs.Steps.{numbered, sent_changes}
use Rattle.bmx_node.specs.Inside.Reacting.{Reacts}

pub append_nil : {A : Type 0} (xs : List A) → xs ++ [] ≡ xs
append_nil [] = refl
append_nil (x ∷ xs) = ap (λ l. x ∷ l) (append_nil xs)

-- nothing changes
pub reacts_only : (stamp : ℕ) (s : NodeState) (a : NodeAnswer) → Reacts stamp s (only a) (record { answer = a; letters = [] }) s
reacts_only stamp s a = record { done = refl; state = refl }

-- changes and no letter
pub reacts_silently : (stamp : ℕ) (s t : NodeState) (changes : List Change) (a : NodeAnswer) → t ≡ after_changes s changes →
    Reacts stamp s (record { changes = changes; drafts = []; answer = a }) (record { answer = a; letters = [] }) t
reacts_silently stamp s t changes a is = record { done = refl; state = is ∙ ap (after_changes s) (sym (append_nil changes)) }

-- changes and letters
pub reacts_saying : (stamp : ℕ) (s mid t : NodeState) (changes : List Change) (drafts : List Draft) (a : NodeAnswer) (letters : List Sending) →
    mid ≡ after_changes s changes → letters ≡ numbered s.issued stamp drafts → t ≡ after_changes mid (flat_map sent_changes letters) →
    Reacts stamp s (record { changes = changes; drafts = drafts; answer = a }) (record { answer = a; letters = letters }) t
reacts_saying stamp s mid t changes drafts a letters first sent after = record {
  done = ap (λ (l : List Sending). record { answer = a; letters = l }) sent;
  state =
      after
      ∙ ap (λ (m : NodeState). after_changes m (flat_map sent_changes letters)) first
      ∙ ap (λ (l : List Sending). after_changes (after_changes s changes) (flat_map sent_changes l)) sent
      ∙ sym (fold-append after_change s changes (flat_map sent_changes (numbered s.issued stamp drafts)));
}

-- ## operations

-- an operation on a known name that the token refuses, or that has nothing to do
pub operation_none : (stamp me : ℕ) (s : NodeState) (lies : ℕ → Place) (op : Operation) (unknown a : NodeAnswer) (name : ℕ) (k : Known) →
    s.known name ≡ Some k → transition_of me op (share_of k) ≡ None → operation_answer me op (share_of k) ≡ a →
    Reacts stamp s (operation_rule me s lies op unknown name (s.known name)) (record { answer = a; letters = [] }) s
operation_none stamp me s lies op unknown a name k known none is =
    let rule : operation_rule me s lies op unknown name (s.known name) ≡ only a =
    ap (operation_rule me s lies op unknown name) known
    ∙ ap (after_operation s lies name k (operation_answer me op (share_of k))) none
    ∙ ap only is in
    subst (λ (r : Reaction). Reacts stamp s r (record { answer = a; letters = [] }) s) (sym rule) (reacts_only stamp s a)

-- one on a name that isn't known
pub operation_unknown : (stamp me : ℕ) (s : NodeState) (lies : ℕ → Place) (op : Operation) (unknown : NodeAnswer) (name : ℕ) →
    s.known name ≡ None → Reacts stamp s (operation_rule me s lies op unknown name (s.known name)) (record { answer = unknown; letters = [] }) s
operation_unknown stamp me s lies op unknown name none =
    subst (λ (o : Option Known). Reacts stamp s (operation_rule me s lies op unknown name o) (record { answer = unknown; letters = [] }) s) (sym none) (reacts_only stamp s unknown)

-- one that is done
pub operation_done : (stamp me : ℕ) (s mid t : NodeState) (lies : ℕ → Place) (op : Operation) (unknown a : NodeAnswer) (name : ℕ) (k : Known) (h : Share) (sends : List Send) (letters : List Sending) →
    s.known name ≡ Some k → transition_of me op (share_of k) ≡ Some (saying h sends) → operation_answer me op (share_of k) ≡ a →
    mid ≡ after_change s (Knows name (with_share k k.copy h)) → letters ≡ numbered s.issued stamp (drafts_of s lies name sends) →
    t ≡ after_changes mid (flat_map sent_changes letters) →
    Reacts stamp s (operation_rule me s lies op unknown name (s.known name)) (record { answer = a; letters = letters }) t
operation_done stamp me s mid t lies op unknown a name k h sends letters known done is first sent after =
    let r : NodeAnswer → Reaction = λ x. record { changes = Knows name (with_share k k.copy h) ∷ []; drafts = drafts_of s lies name sends; answer = x } in
    let rule : operation_rule me s lies op unknown name (s.known name) ≡ r a =
    ap (operation_rule me s lies op unknown name) known
    ∙ ap (after_operation s lies name k (operation_answer me op (share_of k))) done
    ∙ ap r is in
    subst (λ (x : Reaction). Reacts stamp s x (record { answer = a; letters = letters }) t) (sym rule)
    (reacts_saying stamp s mid t (Knows name (with_share k k.copy h) ∷ []) (drafts_of s lies name sends) a letters first sent after)

-- a share with the copy that there was, or without one
pub with_token_is : (k : Known) (q : Part) → with_share k k.copy (with_token (share_of k) q) ≡ record k { part = q }
with_token_is k q = ap (λ (c : Option (List ViewField)). record k { copy = c; part = q }) (by k.copy)
  where
    by : (c : Option (List ViewField)) → (if is_some c then c else None) ≡ c
    by None = refl
    by (Some fields) = refl
