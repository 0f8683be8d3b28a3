-- How many letters a node may take, by the count that its lanes keep.
use Rattle.std.proofs.Common.{◌≡◌, ℕ, zero, suc, ◌+◌, ◌-◌, ◌≤◌, arith, refl, ap, sym, ◌∙◌, List, [], ◌∷◌, length}
use Rattle.std.proofs.lemmas.List.{length-append}
use Rattle.bmx_msg.specs.declared.letters.Letter.{Letter}
use Rattle.bmx_protocol.specs.declared.events.Event.{Event}
use Rattle.bmx_protocol.specs.Histories.{in_flight}
use Rattle.bmx_protocol.specs.Runs.Turns.{letter_action, letter_actions}
use Rattle.bmx_lanes.specs.Sending.{one_if_any, senders_below}

-- two lists are empty together
abbrev pub Alike : {A B : Type 0} → List A → List B → Type 0
Alike a b = length a ≡ length b

pub one_letter : {A : Type 0} (n from : ℕ) (spots : List A) (letters : List Letter) → Alike spots letters → one_if_any spots ≡ length (letter_action n from letters)
one_letter n from [] [] h = refl
one_letter n from [] (l ∷ letters) h = absurd (omega (arith, h))
one_letter n from (s ∷ spots) [] h = absurd (omega (arith, h))
one_letter n from (s ∷ spots) (l ∷ letters) h = refl

-- of the first so many nodes
letters_below : {A : Type 0} (history : List Event) (n : ℕ) (lane : ℕ → List A) → ((from : ℕ) → Alike (lane from) (in_flight from n history)) →
    (nodes : ℕ) → senders_below lane nodes ≡ length (letter_actions history n nodes)
letters_below history n lane alike zero = refl
letters_below history n lane alike (suc nodes) =
    ap (λ (k : ℕ). k + one_if_any (lane nodes)) (letters_below history n lane alike nodes)
    ∙ ap (λ (k : ℕ). length (letter_actions history n nodes) + k) (one_letter n nodes (lane nodes) (in_flight nodes n history) (alike nodes))
    ∙ sym (length-append (letter_actions history n nodes) (letter_action n nodes (in_flight nodes n history)))

none_beyond : {A : Type 0} (lane : ℕ → List A) (nodes more : ℕ) → ((from : ℕ) → nodes ≤ from → lane from ≡ []) → senders_below lane (more + nodes) ≡ senders_below lane nodes
none_beyond lane nodes zero h = by_number (0 + nodes) nodes (omega arith)
  where
    by_number : (a b : ℕ) → a ≡ b → senders_below lane a ≡ senders_below lane b
    by_number a b e = ap (senders_below lane) e
none_beyond lane nodes (suc more) h =
    let e : suc more + nodes ≡ suc (more + nodes) = omega arith in
    let none : lane (more + nodes) ≡ [] = h (more + nodes) (omega arith) in
    let last : senders_below lane (suc (more + nodes)) ≡ senders_below lane (more + nodes) + 0 = ap (λ l. senders_below lane (more + nodes) + one_if_any l) none in
    let same : senders_below lane (more + nodes) + 0 ≡ senders_below lane (more + nodes) = omega arith in
    ap (senders_below lane) e ∙ last ∙ same ∙ none_beyond lane nodes more h

no_spots : {A B : Type 0} (a : List A) (b : List B) → Alike a b → b ≡ [] → a ≡ []
no_spots [] b h e = refl
no_spots (x ∷ a) b h e = absurd (omega (arith, h, ap (λ l. length l) e))

-- the count of lanes is the number of letters that may be taken
pub senders_are_letters : {A : Type 0} (history : List Event) (n nodes : ℕ) (lane : ℕ → List A) → nodes ≤ 8 →
    ((from : ℕ) → Alike (lane from) (in_flight from n history)) → ((from : ℕ) → nodes ≤ from → in_flight from n history ≡ []) →
    senders_below lane 8 ≡ length (letter_actions history n nodes)
senders_are_letters history n nodes lane few alike beyond =
    let e : 8 ≡ (8 - nodes) + nodes = omega (arith, few) in
    ap (senders_below lane) e
    ∙ none_beyond lane nodes (8 - nodes) (λ from h. no_spots (lane from) (in_flight from n history) (alike from) (beyond from h))
    ∙ letters_below history n lane alike nodes
