-- What the head of a script says: its nodes and its bunches.
use Rattle.std.proofs.Common.{◌≡◌, ℕ, ◌+◌, ◌<◌, ◌≤◌, ◌==◌, true, cond, ◌&&◌, ◌||◌, nat_lt, nat_le, List, [], ◌∷◌, length, ⊎_elim, inl, inr, arith, Option, Some, is_none}
use Rattle.std.specs.Prelude.{◌⊎◌}
use Rattle.std.proofs.lemmas.Bool.{and_parts, or_cases, eqb-true, ltb-true, ltb-false, leb-true, cases_lt, cond_both}
use Rattle.std.proofs.Math.ListN.{length-append}
use Rattle.bmx_script.specs.declared.knowledge.Knowledge.{Knowledge}
use Rattle.bmx_script.specs.declared.lines.Line.{Line}
use Rattle.bmx_script.specs.declared.lines.LineKind.{LineKind}
use Rattle.bmx_script.specs.declared.lines.LineKind.TheVariants as line
use Rattle.bmx_script.specs.Grammar.{may_follow, section_of, in_range, known_after, known_after_all, nothing_known, AreInOrder, AreScript, is_within, limit_in}
use Rattle.bmx_script.specs.Inside.Reader.{HasRoom}
use Rattle.bmx_script.proofs.Sound.{room_after}

-- from 1 to 65,535 segments
record HasLimit (o : Option ℕ) : Type 0 where
  some : 0 < limit_in o
  few : limit_in o ≤ 65535

-- behind the nodes their number is known, behind the bunches they are
record HasHead (k : Knowledge) : Type 0 where
  nodes : 2 ≤ k.section → 0 < k.nodes
  bunches : 3 ≤ k.section → 0 < length k.bunches
  room : HasRoom k
  limit : HasLimit k.limit

-- how a section may be followed
follow_parts : (b s : ℕ) → may_follow b s ≡ true → (b < s) × (s ≤ cond (nat_lt b 3) (b + 1) 6) ⊎ (b ≡ s) × (((b == 4) || (b == 5)) ≡ true)
follow_parts b s h = ⊎_elim
    (λ p. let parts : (nat_lt b s ≡ true) × (nat_le s (cond (nat_lt b 3) (b + 1) 6) ≡ true) = and_parts (nat_lt b s) (nat_le s (cond (nat_lt b 3) (b + 1) 6)) p in
    inl (ltb-true b s parts.0, leb-true s (cond (nat_lt b 3) (b + 1) 6) parts.1))
    (λ p. let parts : ((b == s) ≡ true) × (((b == 4) || (b == 5)) ≡ true) = and_parts (b == s) ((b == 4) || (b == 5)) p in
    inr (eqb-true b s parts.0, parts.1))
    (or_cases (nat_lt b s && nat_le s (cond (nat_lt b 3) (b + 1) 6)) ((b == s) && ((b == 4) || (b == 5))) h)

early : (b s : ℕ) → b < 3 → s ≤ cond (nat_lt b 3) (b + 1) 6 → s ≤ b + 1
early b s below h = cond_both (nat_lt b 3) (b + 1) 6 (λ n. s ≤ n → s ≤ b + 1) (λ _ q. q) (λ no_way q. absurd (omega (arith, ltb-false b 3 no_way))) h

-- a plan line, a body line and the end stand behind a bunch
late : (b s : ℕ) → 4 ≤ s → may_follow b s ≡ true → 3 ≤ b
late b s above h = ⊎_elim
    (λ p. ⊎_elim (λ below. absurd (omega (arith, early b s below p.1))) (λ q. q) (cases_lt b 3))
    (λ p. omega (arith, p.0))
    (follow_parts b s h)

-- a bunch stands behind the nodes
behind_nodes : (b : ℕ) → may_follow b 3 ≡ true → 2 ≤ b
behind_nodes b h = ⊎_elim
    (λ p. ⊎_elim (λ below. omega (arith, early b 3 below p.1)) (λ q. omega (arith, q)) (cases_lt b 3))
    (λ p. omega (arith, p.0))
    (follow_parts b 3 h)

keeps : (k : Knowledge) (s : ℕ) → 4 ≤ s → HasHead k → may_follow k.section s ≡ true → HasHead (record { section = s; nodes = k.nodes; bunches = k.bunches; limit = k.limit })
keeps k s above head stands =
    let before : 3 ≤ k.section = late k.section s above stands in
    record {
      nodes = λ _. head.nodes (omega arith);
      bunches = λ _. head.bunches before;
      room = record { few_nodes = head.room.few_nodes; few_bunches = head.room.few_bunches };
      limit = head.limit;
    }

said_limit : (l : ℕ) (o : Option ℕ) → (is_within 1 65535 l && is_none o) ≡ true → HasLimit (Some l)
said_limit l o range =
    let within : (nat_le 1 l ≡ true) × (nat_le l 65535 ≡ true) = and_parts (nat_le 1 l) (nat_le l 65535) (and_parts (is_within 1 65535 l) (is_none o) range).0 in
    record { some = omega (arith, leb-true 1 l within.0); few = leb-true l 65535 within.1 }

head_after : (k : Knowledge) (what : LineKind) → HasHead k → may_follow k.section (section_of what) ≡ true → in_range k what ≡ true → HasHead (known_after k what)
head_after k line.Version head stands range = record { nodes = λ h. absurd (omega arith); bunches = λ h. absurd (omega arith); room = room_after k line.Version head.room range; limit = head.limit }
head_after k (line.Nodes count) head stands range = record { nodes = λ _. leb-true 1 count (and_parts (nat_le 1 count) (nat_le count 8) range).0; bunches = λ h. absurd (omega arith); room = room_after k (line.Nodes count) head.room range; limit = head.limit }
head_after k (line.Bunch w file) head stands range = record {
  nodes = λ _. head.nodes (behind_nodes k.section stands);
  bunches = λ _. omega (arith, length-append k.bunches (w ∷ []));
  room = room_after k (line.Bunch w file) head.room range;
  limit = head.limit;
}
head_after k (line.Segments l) head stands range =
    let same : HasHead (record { section = 4; nodes = k.nodes; bunches = k.bunches; limit = k.limit }) = keeps k 4 (omega arith) head stands in
    record { nodes = same.nodes; bunches = same.bunches; room = room_after k (line.Segments l) head.room range; limit = said_limit l k.limit range }
head_after k (line.Table f t n fate) head stands range = keeps k 4 (omega arith) head stands
head_after k (line.TablesLose e) head stands range = keeps k 4 (omega arith) head stands
head_after k (line.Save b f) head stands range = keeps k 4 (omega arith) head stands
head_after k line.Phase head stands range = keeps k 5 (omega arith) head stands
head_after k line.Quiet head stands range = keeps k 5 (omega arith) head stands
head_after k (line.Do n c) head stands range = keeps k 5 (omega arith) head stands
head_after k (line.Collect n b) head stands range = keeps k 5 (omega arith) head stands
head_after k (line.Sweep n) head stands range = keeps k 5 (omega arith) head stands
head_after k line.Settle head stands range = keeps k 6 (omega arith) head stands

head_of : (k : Knowledge) (ls : List Line) → HasHead k → AreInOrder k ls → HasHead (known_after_all k ls)
head_of k [] head order = head
head_of k (l ∷ ls) head order = head_of (known_after k l.what) ls (head_after k l.what head order.0 order.2) order.3

no_head : HasHead nothing_known
no_head = record { nodes = λ h. absurd (omega arith); bunches = λ h. absurd (omega arith); room = record { few_nodes = omega arith; few_bunches = omega arith }; limit = record { some = omega arith; few = omega arith } }

pub record HasCounts (k : Knowledge) : Type 0 where
  pub a_node : 0 < k.nodes
  pub few_nodes : k.nodes ≤ 8
  pub a_bunch : 0 < length k.bunches
  pub few_bunches : length k.bunches ≤ 16
  pub a_segment : 0 < limit_in k.limit
  pub few_segments : limit_in k.limit ≤ 65535

-- a script has 1 to 8 nodes, 1 to 16 bunches and 1 to 65,535 segments
pub counts_of : (lines : List Line) → AreScript lines → HasCounts (known_after_all nothing_known lines)
counts_of lines script =
    let head : HasHead (known_after_all nothing_known lines) = head_of nothing_known lines no_head script.order in
    let whole : 3 ≤ (known_after_all nothing_known lines).section = leb-true 3 (known_after_all nothing_known lines).section script.head in
    record { a_node = head.nodes (omega arith); few_nodes = head.room.few_nodes; a_bunch = head.bunches whole; few_bunches = head.room.few_bunches; a_segment = head.limit.some; few_segments = head.limit.few }
