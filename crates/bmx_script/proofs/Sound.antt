-- A reader that goes on over a line stays sound.
use Rattle.std.proofs.Common.{◌≡◌, ℕ, ◌+◌, ◌<◌, ◌≤◌, ◌^◌, true, false, not, nat_lt, nat_le, List, [], ◌∷◌, ◌++◌, length, refl, ap, sym, ◌∙◌, suc, zero, ⊎_elim, arith, Result, Ok, Err}
use Rattle.std.specs.List.{list_any}
use Rattle.std.proofs.lemmas.Bool.{and_parts, ltb-true, leb-true, not-true, ltb-false, or_parts, cases_lt, le-leb}
use Rattle.std.proofs.Math.ListN.{get_or-append, length-append}
use Rattle.std.proofs.Math.Seq.{get_or-append_seam}
use Rattle.bmx_numerals.specs.declared.words.Misfit.{Misfit}
use Rattle.bmx_numerals.specs.declared.words.Misfit.TheVariants.{Form, Range}
use Rattle.bmx_script.specs.declared.knowledge.Knowledge.{Knowledge}
use Rattle.bmx_script.specs.declared.lines.Line.{Line}
use Rattle.bmx_script.specs.declared.lines.LineKind.{LineKind}
use Rattle.bmx_script.specs.declared.lines.LineKind.TheVariants as line
use Rattle.bmx_script.specs.declared.scripts.Reader.{Reader}
use Rattle.bmx_script.specs.Grammar.{has_no_form, is_out_of_range, may_follow, section_of, is_built, in_range, same_word, nothing_known, known_after, known_after_all, IsGood, AreInOrder, AreNumbered, first_number, AreScript, script_text, is_long, is_comment, is_skipped}
use Rattle.bmx_script.specs.Inside.Reader.{HasRoom}
use Rattle.bmx_script.specs.Spelling.{word_of, spelling}
use Rattle.bmx_script.specs.Inside.Distinct.{AreDistinct}
use Rattle.bmx_script.specs.Inside.Reader.{verdict_of, IsVerdict, end_of, noted, print_length, IsSound}
use Rattle.bmx_script.proofs.Exact.{Tells}
use Rattle.bmx_script.proofs.RoundTrip.{script_length}

-- the verdict on a line that was read
pub verdict_from : (k : Knowledge) (number end : ℕ) (text : List ℕ) (f : Result LineKind Misfit) → is_long number end ≡ false → is_skipped number text ≡ false → Tells k text f → IsVerdict k number end text (verdict_of f)
verdict_from k number end text (Err Form) near here tells = has_no_form near here tells
verdict_from k number end text (Err Range) near here tells = is_out_of_range near here tells.0 tells.1
verdict_from k number end text (Ok what) near here tells = (near, here, tells)

none_at : (w : List ℕ) (ws : List (List ℕ)) (i : ℕ) → list_any (same_word w) ws ≡ false → i < length ws → same_word w (word_of ws i) ≡ false
none_at w [] i h below = absurd (omega arith)
none_at w (x ∷ xs) zero h below = (or_parts (same_word w x) (list_any (same_word w) xs) h).0
none_at w (x ∷ xs) (suc i) h below = none_at w xs i (or_parts (same_word w x) (list_any (same_word w) xs) h).1 (omega arith)

-- a new word is none of the old ones
distinct_push : (ws : List (List ℕ)) (w : List ℕ) → AreDistinct ws → list_any (same_word w) ws ≡ false → AreDistinct (ws ++ w ∷ [])
distinct_push ws w distinct new q b before within =
    let long : length (ws ++ w ∷ []) ≡ length ws + 1 = length-append ws (w ∷ []) in
    ⊎_elim
    (λ (below : b < length ws).
    rw (get_or-append ws (w ∷ []) [] b below, get_or-append ws (w ∷ []) [] q (omega arith)) (distinct q b before below))
    (λ (above : length ws ≤ b).
    let last : b ≡ length ws = omega arith in
    rw (last, get_or-append_seam ws w [] [], get_or-append ws (w ∷ []) [] q (omega arith)) (none_at w ws q new (omega arith)))
    (cases_lt b (length ws))

-- lines in order, and one that may stand behind them
order_push : (k : Knowledge) (ls : List Line) (l : Line) → AreInOrder k ls → may_follow (known_after_all k ls).section (section_of l.what) ≡ true → is_built l.what ≡ true
    → in_range (known_after_all k ls) l.what ≡ true → AreInOrder k (ls ++ l ∷ [])
order_push k [] l order stands built range = (stands, built, range, tt)
order_push k (m ∷ ms) l order stands built range = (order.0, order.1, order.2, order_push (known_after k m.what) ms l order.3 stands built range)

known_push : (k : Knowledge) (ls : List Line) (l : Line) → known_after_all k (ls ++ l ∷ []) ≡ known_after (known_after_all k ls) l.what
known_push k [] l = refl
known_push k (m ∷ ms) l = known_push (known_after k m.what) ms l

pub distinct_after : (k : Knowledge) (what : LineKind) → AreDistinct k.bunches → in_range k what ≡ true → AreDistinct (known_after k what).bunches
distinct_after k line.Version d range = d
distinct_after k (line.Nodes count) d range = d
distinct_after k (line.Bunch w file) d range = distinct_push k.bunches w d (not-true (list_any (same_word w) k.bunches) (and_parts (not (list_any (same_word w) k.bunches)) (nat_lt (length k.bunches) 16) range).0)
distinct_after k (line.Segments l) d range = d
distinct_after k (line.Table f t n fate) d range = d
distinct_after k (line.TablesLose e) d range = d
distinct_after k (line.Save b f) d range = d
distinct_after k line.Phase d range = d
distinct_after k line.Quiet d range = d
distinct_after k (line.Do n c) d range = d
distinct_after k (line.Collect n b) d range = d
distinct_after k (line.Sweep n) d range = d
distinct_after k line.Settle d range = d

same_room : {k l : Knowledge} → HasRoom k → k.nodes ≡ l.nodes → length k.bunches ≡ length l.bunches → HasRoom l
same_room {k} {l} r n b = record { few_nodes = rw (← n) r.few_nodes; few_bunches = rw (← b) r.few_bunches }

pub room_after : (k : Knowledge) (what : LineKind) → HasRoom k → in_range k what ≡ true → HasRoom (known_after k what)
room_after k line.Version r range = record { few_nodes = r.few_nodes; few_bunches = r.few_bunches }
room_after k (line.Nodes count) r range = record { few_nodes = leb-true count 8 (and_parts (nat_le 1 count) (nat_le count 8) range).1; few_bunches = r.few_bunches }
room_after k (line.Bunch w file) r range =
    let room : length k.bunches < 16 = ltb-true (length k.bunches) 16 (and_parts (not (list_any (same_word w) k.bunches)) (nat_lt (length k.bunches) 16) range).1 in
    record { few_nodes = r.few_nodes; few_bunches = omega (arith, length-append k.bunches (w ∷ [])) }
room_after k (line.Segments l) r range = record { few_nodes = r.few_nodes; few_bunches = r.few_bunches }
room_after k (line.Table f t n fate) r range = record { few_nodes = r.few_nodes; few_bunches = r.few_bunches }
room_after k (line.TablesLose e) r range = record { few_nodes = r.few_nodes; few_bunches = r.few_bunches }
room_after k (line.Save b f) r range = record { few_nodes = r.few_nodes; few_bunches = r.few_bunches }
room_after k line.Phase r range = record { few_nodes = r.few_nodes; few_bunches = r.few_bunches }
room_after k line.Quiet r range = record { few_nodes = r.few_nodes; few_bunches = r.few_bunches }
room_after k (line.Do n c) r range = record { few_nodes = r.few_nodes; few_bunches = r.few_bunches }
room_after k (line.Collect n b) r range = record { few_nodes = r.few_nodes; few_bunches = r.few_bunches }
room_after k (line.Sweep n) r range = record { few_nodes = r.few_nodes; few_bunches = r.few_bunches }
room_after k line.Settle r range = record { few_nodes = r.few_nodes; few_bunches = r.few_bunches }

-- the reader behind a line
abbrev pub advanced : Reader → List ℕ → Reader
advanced r text = record { known = r.known; lines = r.lines; number = r.number + 1; start = r.start + (length text + 1) }

pub near_bounds : (number end : ℕ) → is_long number end ≡ false → (number ≤ 20000) × (end ≤ 2 ^ 20)
near_bounds number end h =
    let parts : (nat_lt 20000 number ≡ false) × (nat_lt (2 ^ 20) end ≡ false) = or_parts (nat_lt 20000 number) (nat_lt (2 ^ 20) end) h in
    (ltb-false 20000 number parts.0, ltb-false (2 ^ 20) end parts.1)

-- ## line numbers

weaker : (above below more : ℕ) (ls : List Line) → below ≤ more → AreNumbered above below ls → AreNumbered above more ls
weaker above below more [] h numbers = omega arith
weaker above below more (l ∷ ls) h numbers = (numbers.0, weaker l.number below more ls h numbers.1)

numbers_push : (above number : ℕ) (what : LineKind) (ls : List Line) → AreNumbered above number ls → AreNumbered above (number + 1) (ls ++ record { number = number; what = what } ∷ [])
numbers_push above number what [] numbers = (numbers, omega arith)
numbers_push above number what (l ∷ ls) numbers = (numbers.0, numbers_push l.number number what ls numbers.1)

-- line 1 is never skipped
first_skipped : (number : ℕ) (text : List ℕ) (ls : List Line) → first_number number ls ≡ 1 → is_skipped number text ≡ true → first_number (number + 1) ls ≡ 1
first_skipped number text [] first here = absurd (omega (arith, ltb-true 1 number (and_parts (nat_lt 1 number) (is_comment text) here).0))
first_skipped number text (l ∷ ls) first here = first

first_push : (number next : ℕ) (what : LineKind) (ls : List Line) → first_number number ls ≡ 1 → first_number next (ls ++ record { number = number; what = what } ∷ []) ≡ 1
first_push number next what [] first = first
first_push number next what (l ∷ ls) first = first

-- ## what the lines print

length_skipped : (k : Knowledge) (number : ℕ) (ls : List Line) (next : ℕ) → print_length k number ls (next + 1) ≤ print_length k number ls next + 1
length_skipped k number [] next = omega arith
length_skipped k number (l ∷ ls) next = let more : print_length (known_after k l.what) (l.number + 1) ls (next + 1) ≤ print_length (known_after k l.what) (l.number + 1) ls next + 1 = length_skipped (known_after k l.what) (l.number + 1) ls next in omega arith

length_push : (k : Knowledge) (number : ℕ) (ls : List Line) (next : ℕ) (what : LineKind)
    → print_length k number (ls ++ record { number = next; what = what } ∷ []) (next + 1) ≡ print_length k number ls next + (length (spelling (known_after_all k ls).bunches what) + 1)
length_push k number [] next what = omega arith
length_push k number (l ∷ ls) next what =
    let more : print_length (known_after k l.what) (l.number + 1) (ls ++ record { number = next; what = what } ∷ []) (next + 1) ≡ print_length (known_after k l.what) (l.number + 1) ls next + (length (spelling (known_after_all (known_after k l.what) ls).bunches what) + 1) = length_push (known_after k l.what) (l.number + 1) ls next what in
    omega arith

-- ## the reader behind a line

pub sound_skipped : (r : Reader) (text : List ℕ) → IsSound r → is_long r.number (end_of r text) ≡ false → is_skipped r.number text ≡ true → IsSound (advanced r text)
sound_skipped r text s near here =
    let bounds : (r.number ≤ 20000) × (end_of r text ≤ 2 ^ 20) = near_bounds r.number (end_of r text) near in
    let longer : print_length nothing_known 1 r.lines (r.number + 1) ≤ print_length nothing_known 1 r.lines r.number + 1 = length_skipped nothing_known 1 r.lines r.number in
    record {
      order = s.order;
      known = s.known;
      distinct = s.distinct;
      room = s.room;
      some = omega (arith, s.some);
      few = omega (arith, bounds.0);
      short = bounds.1;
      first = first_skipped r.number text r.lines s.first here;
      numbers = weaker 0 r.number (r.number + 1) r.lines (omega arith) s.numbers;
      printed = omega (arith, longer, s.printed);
    }

pub sound_noted : (r : Reader) (text : List ℕ) (what : LineKind) → IsSound r → is_long r.number (end_of r text) ≡ false → IsGood r.known what text → IsSound (advanced (noted r what) text)
sound_noted r text what s near good =
    let bounds : (r.number ≤ 20000) × (end_of r text ≤ 2 ^ 20) = near_bounds r.number (end_of r text) near in
    let l : Line = record { number = r.number; what = what } in
    let stands : may_follow (known_after_all nothing_known r.lines).section (section_of what) ≡ true = ap (λ (k : Knowledge). may_follow k.section (section_of what)) (sym s.known) ∙ good.form.stands in
    let range : in_range (known_after_all nothing_known r.lines) what ≡ true = ap (λ (k : Knowledge). in_range k what) (sym s.known) ∙ good.range in
    let spelled : length (spelling (known_after_all nothing_known r.lines).bunches what) ≡ length text = ap (λ (k : Knowledge). length (spelling k.bunches what)) (sym s.known) ∙ ap (λ (x : List ℕ). length x) good.form.spelled in
    let longer : print_length nothing_known 1 (r.lines ++ l ∷ []) (r.number + 1) ≡ print_length nothing_known 1 r.lines r.number + (length (spelling (known_after_all nothing_known r.lines).bunches what) + 1) = length_push nothing_known 1 r.lines r.number what in
    record {
      order = order_push nothing_known r.lines l s.order stands good.form.built range;
      known = ap (λ (k : Knowledge). known_after k what) s.known ∙ sym (known_push nothing_known r.lines l);
      distinct = distinct_after r.known what s.distinct good.range;
      room = room_after r.known what s.room good.range;
      some = omega (arith, s.some, length-append r.lines (l ∷ []));
      few = omega (arith, bounds.0);
      short = bounds.1;
      first = first_push r.number (r.number + 1) what r.lines s.first;
      numbers = numbers_push 0 r.number what r.lines s.numbers;
      printed = omega (arith, longer, spelled, s.printed);
    }

-- ## at the end of the bytes

pub sound_script : (r : Reader) → IsSound r → 3 ≤ r.known.section → AreScript r.lines
sound_script r s head =
    let length_is : length (script_text r.lines) ≤ print_length nothing_known 1 r.lines r.number = script_length r.lines r.number s.order in
    record {
      order = s.order;
      head = le-leb 3 (known_after_all nothing_known r.lines).section (omega (arith, ap (λ (k : Knowledge). k.section) s.known));
      few = omega (arith, s.some, s.few);
      first = first_of r.number r.lines s.first (some_lines r.lines (omega (arith, ap (λ (k : Knowledge). k.section) s.known)));
      numbers = weaker 0 r.number 20001 r.lines s.few s.numbers;
      short = omega (arith, length_is, s.printed, s.short);
    }
  where
    first_of : (n : ℕ) (ls : List Line) → first_number n ls ≡ 1 → 0 < length ls → first_number 1 ls ≡ 1
    first_of n [] h some = absurd (omega arith)
    first_of n (l ∷ ls) h some = h

    some_lines : (ls : List Line) → 3 ≤ (known_after_all nothing_known ls).section → 0 < length ls
    some_lines [] h = absurd (omega arith)
    some_lines (l ∷ ls) h = omega arith
