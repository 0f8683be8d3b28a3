-- The commands of a script fit the store that it opens.
use Rattle.std.proofs.Common.{◌≡◌, ℕ, zero, suc, ◌+◌, ◌<◌, ◌≤◌, ◌==◌, arith, refl, ap, sym, ◌∙◌, subst, true, cond, ◌&&◌, ◌||◌, nat_lt, nat_le, List, [], ◌∷◌, ◌++◌, length, max, ⊎_elim, Some}
use Rattle.std.specs.Prelude.{slice_get}
use Rattle.std.proofs.lemmas.Bool.{and_parts, or_cases, eqb-true, ltb-true, leb-true, false≢true}
use Rattle.std.proofs.lemmas.List.{length-append}
use Rattle.bmx_types.specs.Integers.{is_i64}
use Rattle.bmx_types.specs.Openings.{bunches_of}
use Rattle.bmx_types.specs.declared.openings.Birth.{Birth}
use Rattle.bmx_types.specs.declared.commands.Operand.{Operand}
use Rattle.bmx_types.specs.declared.commands.Operand.TheVariants as operand
use Rattle.bmx_types.specs.declared.commands.Command.{Command}
use Rattle.bmx_types.specs.declared.commands.Command.TheVariants as command
use Rattle.bmx_script.specs.declared.knowledge.Knowledge.{Knowledge}
use Rattle.bmx_script.specs.declared.lines.Line.{Line}
use Rattle.bmx_script.specs.declared.lines.LineKind.{LineKind}
use Rattle.bmx_script.specs.declared.lines.LineKind.TheVariants as line
use Rattle.bmx_script.specs.Grammar.{may_follow, section_of, fits_operand, fits_command, in_range, known_after, known_after_all, nothing_known, AreInOrder, AreScript}
use Rattle.bmx_node.specs.Seen.{FitsOperand, FitsCommand}
use Rattle.bmx_world.specs.Scripts.{anchor_birth, anchors, setting_of_script}
use Rattle.bmx_run.specs.Inside.Running.{IsGiven}

-- ## what is known stays

-- behind the line of nodes their number stays, and bunches are only added
record Grows (k m : Knowledge) : Type 0 where
  nodes : m.nodes ≡ k.nodes
  bunches : length k.bunches ≤ length m.bunches
  late : 2 ≤ m.section

-- a section is followed by none before it
follows : (b s : ℕ) → may_follow b s ≡ true → b ≤ s
follows b s h = ⊎_elim
    (λ p. let lt : b < s = ltb-true b s (and_parts (nat_lt b s) (nat_le s (cond (nat_lt b 3) (b + 1) 6)) p).0 in omega arith)
    (λ p. let eq : b ≡ s = eqb-true b s (and_parts (b == s) ((b == 4) || (b == 5)) p).0 in omega arith)
    (or_cases (nat_lt b s && nat_le s (cond (nat_lt b 3) (b + 1) 6)) ((b == s) && ((b == 4) || (b == 5))) h)

-- and the line of nodes stands once
one_line_of_nodes : (b : ℕ) → may_follow b 2 ≡ true → b < 2
one_line_of_nodes b h = ⊎_elim
    (λ p. ltb-true b 2 (and_parts (nat_lt b 2) (nat_le 2 (cond (nat_lt b 3) (b + 1) 6)) p).0)
    (λ p. let parts : ((b == 2) ≡ true) × (((b == 4) || (b == 5)) ≡ true) = and_parts (b == 2) ((b == 4) || (b == 5)) p in second b (eqb-true b 2 parts.0) parts.1)
    (or_cases (nat_lt b 2 && nat_le 2 (cond (nat_lt b 3) (b + 1) 6)) ((b == 2) && ((b == 4) || (b == 5))) h)
  where
    second : (b : ℕ) → b ≡ 2 → ((b == 4) || (b == 5)) ≡ true → b < 2
    second b e h = absurd (false≢true (subst (λ (n : ℕ). ((n == 4) || (n == 5)) ≡ true) e h))

grows_one : (k : Knowledge) (what : LineKind) → 2 ≤ k.section → may_follow k.section (section_of what) ≡ true → Grows k (known_after k what)
grows_one k line.Version late stands = absurd (omega (arith, late, follows k.section 1 stands))
grows_one k (line.Nodes count) late stands = absurd (omega (arith, late, one_line_of_nodes k.section stands))
grows_one k (line.Bunch w file) late stands = record { nodes = refl; bunches = omega (arith, length-append k.bunches (w ∷ [])); late = omega arith }
grows_one k (line.Segments l) late stands = record { nodes = refl; bunches = omega arith; late = omega arith }
grows_one k (line.Table f t n fate) late stands = record { nodes = refl; bunches = omega arith; late = omega arith }
grows_one k (line.TablesLose e) late stands = record { nodes = refl; bunches = omega arith; late = omega arith }
grows_one k (line.Save b f) late stands = record { nodes = refl; bunches = omega arith; late = omega arith }
grows_one k line.Phase late stands = record { nodes = refl; bunches = omega arith; late = omega arith }
grows_one k line.Quiet late stands = record { nodes = refl; bunches = omega arith; late = omega arith }
grows_one k (line.Do n c) late stands = record { nodes = refl; bunches = omega arith; late = omega arith }
grows_one k (line.Collect n b) late stands = record { nodes = refl; bunches = omega arith; late = omega arith }
grows_one k (line.Sweep n) late stands = record { nodes = refl; bunches = omega arith; late = omega arith }
grows_one k line.Settle late stands = record { nodes = refl; bunches = omega arith; late = omega arith }

grows_all : (k : Knowledge) (ls : List Line) → 2 ≤ k.section → AreInOrder k ls → Grows k (known_after_all k ls)
grows_all k [] late order = record { nodes = refl; bunches = omega arith; late = late }
grows_all k (l ∷ ls) late order =
    let one : Grows k (known_after k l.what) = grows_one k l.what late order.0 in
    let more : Grows (known_after k l.what) (known_after_all (known_after k l.what) ls) = grows_all (known_after k l.what) ls one.late order.3 in
    record { nodes = more.nodes ∙ one.nodes; bunches = omega (arith, one.bunches, more.bunches); late = more.late }

-- ## a command fits

fits_on : (k m : ℕ) (o : Operand) → k ≤ m → fits_operand k o ≡ true → FitsOperand m o
fits_on k m (operand.Register r) few h = ltb-true r 16 h
fits_on k m (operand.Anchor b) few h = omega (arith, ltb-true b k h, few)
fits_on k m (operand.Int i) few h = tt
fits_on k m operand.Null few h = tt

fits_one : (k m : ℕ) (c : Command) → k ≤ m → fits_command k c ≡ true → FitsCommand m c
fits_one k m (command.New r b s) few h =
    let parts : (nat_lt r 16 ≡ true) × ((nat_lt b k && nat_le s 32) ≡ true) = and_parts (nat_lt r 16) (nat_lt b k && nat_le s 32) h in
    let more : (nat_lt b k ≡ true) × (nat_le s 32 ≡ true) = and_parts (nat_lt b k) (nat_le s 32) parts.1 in
    (ltb-true r 16 parts.0, omega (arith, ltb-true b k more.0, few), leb-true s 32 more.1)
fits_one k m (command.Copy r v) few h = let parts : (nat_lt r 16 ≡ true) × (fits_operand k v ≡ true) = and_parts (nat_lt r 16) (fits_operand k v) h in (ltb-true r 16 parts.0, fits_on k m v few parts.1)
fits_one k m (command.Drop r) few h = ltb-true r 16 h
fits_one k m (command.Read on) few h = fits_on k m on few h
fits_one k m (command.Write on) few h = fits_on k m on few h
fits_one k m (command.Done on) few h = fits_on k m on few h
fits_one k m (command.Set on i v) few h =
    let parts : (fits_operand k on ≡ true) × ((nat_lt i 256 && fits_operand k v) ≡ true) = and_parts (fits_operand k on) (nat_lt i 256 && fits_operand k v) h in
    (fits_on k m on few parts.0, fits_on k m v few (and_parts (nat_lt i 256) (fits_operand k v) parts.1).1)
fits_one k m (command.Add on i z) few h = fits_on k m on few (and_parts (fits_operand k on) (nat_lt i 256 && is_i64 z) h).0
fits_one k m (command.Get r on i) few h =
    let parts : (nat_lt r 16 ≡ true) × ((fits_operand k on && nat_lt i 256) ≡ true) = and_parts (nat_lt r 16) (fits_operand k on && nat_lt i 256) h in
    (ltb-true r 16 parts.0, fits_on k m on few (and_parts (fits_operand k on) (nat_lt i 256) parts.1).0)
fits_one k m (command.Show on i) few h = fits_on k m on few (and_parts (fits_operand k on) (nat_lt i 256) h).0
fits_one k m (command.Same l r) few h =
    let parts : (fits_operand k l ≡ true) × (fits_operand k r ≡ true) = and_parts (fits_operand k l) (fits_operand k r) h in
    (fits_on k m l few parts.0, fits_on k m r few parts.1)

-- ## a line of a script

-- a node's command is of a node and bunches that are known
record Known (m : Knowledge) (n : ℕ) (c : Command) : Type 0 where
  node : n < m.nodes
  fits : FitsCommand (length m.bunches) c

known_here : (k : Knowledge) (n : ℕ) (c : Command) (ls : List Line) → in_range k (line.Do n c) ≡ true → AreInOrder (known_after k (line.Do n c)) ls →
    Known (known_after_all (known_after k (line.Do n c)) ls) n c
known_here k n c ls range order =
    let parts : (nat_lt n k.nodes ≡ true) × (fits_command (length k.bunches) c ≡ true) = and_parts (nat_lt n k.nodes) (fits_command (length k.bunches) c) range in
    let more : Grows (known_after k (line.Do n c)) (known_after_all (known_after k (line.Do n c)) ls) = grows_all (known_after k (line.Do n c)) ls (omega arith) order in
    record {
      node = omega (arith, ltb-true n k.nodes parts.0, more.nodes);
      fits = fits_one (length k.bunches) (length (known_after_all (known_after k (line.Do n c)) ls).bunches) c more.bunches parts.1;
    }

known_at : (k : Knowledge) (ls : List Line) (i : ℕ) (l : Line) (n : ℕ) (c : Command) → AreInOrder k ls → slice_get ls i ≡ Some l → l.what ≡ line.Do n c → Known (known_after_all k ls) n c
known_at k [] i l n c order got is = absurd (cc)
known_at k (x ∷ ls) zero l n c order got is =
    let same : x ≡ l = cc in
    let what : x.what ≡ line.Do n c = ap (λ (y : Line). y.what) same ∙ is in
    subst (λ (w : LineKind). Known (known_after_all (known_after k w) ls) n c) (sym what)
    (known_here k n c ls (subst (λ (w : LineKind). in_range k w ≡ true) what order.2) (subst (λ (w : LineKind). AreInOrder (known_after k w) ls) what order.3))
known_at k (x ∷ ls) (suc i) l n c order got is = known_at (known_after k x.what) ls i l n c order.3 got is

-- ## the store

bunches_append : (births : List Birth) (b : Birth) → bunches_of (births ++ b ∷ []) ≡ max (bunches_of births) (b.bunch + 1)
bunches_append [] b = grind arith
bunches_append (c ∷ births) b = ap (max (c.bunch + 1)) (bunches_append births b) ∙ grind arith

bunches_anchors : (n : ℕ) → bunches_of (anchors n) ≡ n
bunches_anchors zero = refl
bunches_anchors (suc n) = (let more : bunches_of (anchors n ++ anchor_birth n ∷ []) ≡ max (bunches_of (anchors n)) (n + 1) = bunches_append (anchors n) (anchor_birth n) in omega (arith, more, bunches_anchors n))

-- each command of a script may be given
pub is_given : (lines : List Line) (i : ℕ) (l : Line) (n : ℕ) (c : Command) → AreScript lines → slice_get lines i ≡ Some l → l.what ≡ line.Do n c →
    IsGiven (setting_of_script lines) (record { node = n; line = l.number; command = c })
is_given lines i l n c script got is =
    let known : Known (known_after_all nothing_known lines) n c = known_at nothing_known lines i l n c script.order got is in
    record {
      a_node = known.node;
      fits = subst (λ (k : ℕ). FitsCommand k c) (sym (bunches_anchors (length (known_after_all nothing_known lines).bunches))) known.fits;
    }
