-- Where nodes are in their programs, as a history is printed.
use Rattle.std.proofs.Common.{◌≡◌, ℕ, ◌+◌, ◌<◌, suc, zero, refl, sym, ap, ◌∙◌, Bool, true, false, cond, List, [], ◌∷◌, ◌++◌, length, drop, get_or, arith, subst, add-one, append_assoc}
use Rattle.std.specs.Prelude.{Option, Some, None, slice_get, slice_set}
use Rattle.std.specs.Option.{option_map}
use Rattle.std.specs.List.{cons_option, flat_map}
use Rattle.std.proofs.lemmas.List.{append-nil, length-set}
use Rattle.std.proofs.lemmas.Option.{slice_get-get_or}
use Rattle.std.proofs.lemmas.List.Concat.{flat_map-append}
use Rattle.std.proofs.Math.Seq.{drop-cons}
use Rattle.bmx_types.specs.Updates.{put}
use Rattle.bmx_script.specs.declared.lines.Line.{Line}
use Rattle.bmx_script.specs.declared.lines.LineKind.{LineKind}
use Rattle.bmx_script.specs.declared.lines.LineKind.TheVariants as line
use Rattle.bmx_types.specs.declared.commands.Command.{Command}
use Rattle.bmx_protocol.specs.declared.events.Event.{Event}
use Rattle.bmx_protocol.specs.Runs.Programs.{Body, Order, Output, program, completion, output_of, output_at, outputs, counts_after}
use Rattle.bmx_protocol.proofs.Basics.{eqb_of, Two, Same, Apart, two}
use Rattle.bmx_world.specs.Scripts.{body_line, body_of}
use Rattle.bmx_world.specs.Texts.{printed_of, line_if, output_line, text_of}
use Rattle.bmx_world.specs.Inside.Printing.{is_order_to, program_of, IsNextAt, AreAt, GoesOn, Prints}
use Rattle.bmx_world.proofs.Lined.{printed_line}

-- ## one line

-- a line that gives a node no command is none of its program
skips : (number : ℕ) (what : LineKind) (body : List Body) (n : ℕ) → is_order_to n what ≡ false → program (cons_option (body_line number what) body) n ≡ program body n
skips number line.Version body n h = refl
skips number (line.Nodes count) body n h = refl
skips number (line.Bunch word file) body n h = refl
skips number (line.Segments limit) body n h = refl
skips number (line.Table from to count fate) body n h = refl
skips number (line.TablesLose every) body n h = refl
skips number (line.Save bunch file) body n h = refl
skips number line.Phase body n h = refl
skips number line.Quiet body n h = refl
skips number (line.Do m c) body n h = ap (λ (b : Bool). cond b (record { node = m; line = number; command = c } ∷ program body n) (program body n)) h
skips number (line.Collect m bunch) body n h = refl
skips number (line.Sweep m) body n h = refl
skips number line.Settle body n h = refl

-- and one that gives it a command is the first of it
abbrev Gives : ℕ → List Order → List Order → Type 0
Gives number whole rest = (g : Order) × (number ≡ g.line) × (whole ≡ g ∷ rest)

gives : (number : ℕ) (what : LineKind) (body : List Body) (n : ℕ) → is_order_to n what ≡ true → Gives number (program (cons_option (body_line number what) body) n) (program body n)
gives number line.Version body n h = absurd cc
gives number (line.Nodes count) body n h = absurd cc
gives number (line.Bunch word file) body n h = absurd cc
gives number (line.Segments limit) body n h = absurd cc
gives number (line.Table from to count fate) body n h = absurd cc
gives number (line.TablesLose every) body n h = absurd cc
gives number (line.Save bunch file) body n h = absurd cc
gives number line.Phase body n h = absurd cc
gives number line.Quiet body n h = absurd cc
gives number (line.Do m c) body n h =
    (record { node = m; line = number; command = c }, refl, ap (λ (b : Bool). cond b (record { node = m; line = number; command = c } ∷ program body n) (program body n)) h)
gives number (line.Collect m bunch) body n h = absurd cc
gives number (line.Sweep m) body n h = absurd cc
gives number line.Settle body n h = absurd cc

-- ## a place

-- what stands at a place, and what stands behind it
pub at_place : {A : Type 0} (xs : List A) (i : ℕ) (x : A) → i < length xs → x ≡ get_or xs i x → drop i xs ≡ x ∷ drop (i + 1) xs
at_place xs i x h is = rw add-one (drop-cons xs i x h ∙ ap (λ y. y ∷ drop (suc i) xs) (sym is))

-- behind a line that gives a node no command the node has the same to do
pub goes_past : (lines : List Line) (n i : ℕ) (l : Line) → i < length lines → l ≡ get_or lines i l → is_order_to n l.what ≡ false →
    program_of (drop (i + 1) lines) n ≡ program_of (drop i lines) n
goes_past lines n i l h is not =
    sym (ap (λ (ls : List Line). program_of ls n) (at_place lines i l h is) ∙ skips l.number l.what (body_of (drop (i + 1) lines)) n not)

-- the first line that gives it one
pub stops_at : (lines : List Line) (n from i : ℕ) (l : Line) → i < length lines → l ≡ get_or lines i l → slice_get lines i ≡ Some l → is_order_to n l.what ≡ true →
    program_of (drop i lines) n ≡ program_of (drop from lines) n → IsNextAt lines n from (Some i)
stops_at lines n from i l h is there order same =
    let g : Gives l.number (program_of (l ∷ drop (i + 1) lines) n) (program_of (drop (i + 1) lines) n) = gives l.number l.what (body_of (drop (i + 1) lines)) n order in
    (h, g.0, ap (option_map (λ (k : Line). k.number)) there ∙ ap Some g.1, sym same ∙ ap (λ (ls : List Line). program_of ls n) (at_place lines i l h is) ∙ g.2)

-- ## all places

first_of : {A : Type 0} (xs : List A) (k : ℕ) (x : A) (rest : List A) → drop k xs ≡ x ∷ rest → slice_get xs k ≡ Some x
first_of [] zero x rest h = absurd cc
first_of [] (suc k) x rest h = absurd cc
first_of (y ∷ xs) zero x rest h = cc
first_of (y ∷ xs) (suc k) x rest h = first_of xs k x rest h

none_of : {A : Type 0} (xs : List A) (k : ℕ) → drop k xs ≡ [] → slice_get xs k ≡ None
none_of [] zero h = refl
none_of [] (suc k) h = refl
none_of (y ∷ xs) zero h = absurd cc
none_of (y ∷ xs) (suc k) h = none_of xs k h

rest_suc : {A : Type 0} (xs : List A) (k : ℕ) (x : A) (rest : List A) → drop k xs ≡ x ∷ rest → drop (suc k) xs ≡ rest
rest_suc [] zero x rest h = absurd cc
rest_suc [] (suc k) x rest h = absurd cc
rest_suc (y ∷ xs) zero x rest h = cc
rest_suc (y ∷ xs) (suc k) x rest h = rest_suc xs k x rest h

rest_of : {A : Type 0} (xs : List A) (k : ℕ) (x : A) (rest : List A) → drop k xs ≡ x ∷ rest → drop (k + 1) xs ≡ rest
rest_of xs k x rest h = rw add-one (rest_suc xs k x rest h)

still_suc : {A : Type 0} (xs : List A) (k : ℕ) → drop k xs ≡ [] → drop (suc k) xs ≡ []
still_suc [] k h = refl
still_suc (y ∷ xs) zero h = absurd cc
still_suc (y ∷ xs) (suc k) h = still_suc xs k h

still_none : {A : Type 0} (xs : List A) (k : ℕ) → drop k xs ≡ [] → drop (k + 1) xs ≡ []
still_none xs k h = rw add-one (still_suc xs k h)

set_here : {A : Type 0} (xs : List A) (n : ℕ) (v q : A) → slice_get (slice_set xs n v) n ≡ Some q → q ≡ v
set_here [] zero v q h = absurd cc
set_here [] (suc n) v q h = absurd cc
set_here (x ∷ xs) zero v q h = cc
set_here (x ∷ xs) (suc n) v q h = set_here xs n v q h

set_else : {A : Type 0} (xs : List A) (n k : ℕ) (v : A) → (n ≡ k → ⊥) → slice_get (slice_set xs n v) k ≡ slice_get xs k
set_else [] zero zero v h = refl
set_else [] zero (suc k) v h = refl
set_else [] (suc n) zero v h = refl
set_else [] (suc n) (suc k) v h = refl
set_else (x ∷ xs) zero zero v h = absurd (h refl)
set_else (x ∷ xs) zero (suc k) v h = refl
set_else (x ∷ xs) (suc n) zero v h = refl
set_else (x ∷ xs) (suc n) (suc k) v h = set_else xs n k v (λ e. h (ap suc e))

-- a node goes on to its next command
pub goes_on : (lines : List Line) (counts : ℕ → ℕ) (places : List ℕ) (node place at : ℕ) (l : Line) → AreAt lines counts places →
    slice_get places node ≡ Some place → IsNextAt lines node place (Some at) → slice_get lines at ≡ Some l →
    GoesOn lines counts node (Some l.number) (slice_set places node (at + 1))
goes_on lines counts places node place at l are there next is =
    let whole : List Order = program_of lines node in
    let g : Order = next.1 in
    let to_come : drop (counts node) whole ≡ g ∷ program_of (drop (at + 1) lines) node = sym (are.stand node place there) ∙ next.3 in
    record {
      line = sym (ap (option_map (λ (k : Line). k.number)) is) ∙ next.2
          ∙ sym (ap (option_map (λ (o : Order). o.line)) (first_of whole (counts node) g (program_of (drop (at + 1) lines) node) to_come));
      at = record {
        each = length-set places node (at + 1) ∙ are.each;
        stand = λ m q here. by_node (rest_of whole (counts node) g (program_of (drop (at + 1) lines) node) to_come) m q here (two node m);
      };
    }
  where
    by_node : drop (counts node + 1) (program_of lines node) ≡ program_of (drop (at + 1) lines) node → (m q : ℕ) → slice_get (slice_set places node (at + 1)) m ≡ Some q → Two node m →
        program_of (drop q lines) m ≡ drop (put counts node (counts node + 1) m) (program_of lines m)
    by_node rest m q here (Same e) =
        let now : q ≡ at + 1 = set_here places node (at + 1) q (ap (slice_get (slice_set places node (at + 1))) e ∙ here) in
        ap (λ (k : ℕ). program_of (drop k lines) m) now ∙ ap (λ (k : ℕ). program_of (drop (at + 1) lines) k) (sym e)
        ∙ sym rest
        ∙ ap (λ (k : ℕ). drop (counts node + 1) (program_of lines k)) e
        ∙ ap (λ (b : Bool). drop (cond b (counts node + 1) (counts m)) (program_of lines m)) (sym (eqb_of e))
    by_node rest m q here (Apart t not) =
        are.stand m q (sym (set_else places node m (at + 1) not) ∙ here)
        ∙ ap (λ (b : Bool). drop (cond b (counts node + 1) (counts m)) (program_of lines m)) (sym t)

-- it has none
pub stays : (lines : List Line) (counts : ℕ → ℕ) (places : List ℕ) (node place : ℕ) → AreAt lines counts places →
    slice_get places node ≡ Some place → IsNextAt lines node place None → GoesOn lines counts node None places
stays lines counts places node place are there next =
    let nothing : drop (counts node) (program_of lines node) ≡ [] = sym (are.stand node place there) ∙ next in
    record {
      line = sym (ap (option_map (λ (o : Order). o.line)) (none_of (program_of lines node) (counts node) nothing));
      at = record { each = are.each; stand = λ m q here. by_node nothing m q here (two node m) };
    }
  where
    by_node : drop (counts node) (program_of lines node) ≡ [] → (m q : ℕ) → slice_get places m ≡ Some q → Two node m →
        program_of (drop q lines) m ≡ drop (put counts node (counts node + 1) m) (program_of lines m)
    by_node nothing m q here (Same e) =
        are.stand m q here ∙ ap (λ (k : ℕ). drop (counts k) (program_of lines k)) (sym e) ∙ nothing
        ∙ sym (still_none (program_of lines node) (counts node) nothing)
        ∙ ap (λ (k : ℕ). drop (counts node + 1) (program_of lines k)) e
        ∙ ap (λ (b : Bool). drop (cond b (counts node + 1) (counts m)) (program_of lines m)) (sym (eqb_of e))
    by_node nothing m q here (Apart t not) =
        are.stand m q here ∙ ap (λ (b : Bool). drop (cond b (counts node + 1) (counts m)) (program_of lines m)) (sym t)

-- the place of a node
place_of : (places : List ℕ) (node i d : ℕ) → i ≡ node → node < 8 → length places ≡ 8 → slice_get places node ≡ Some (get_or places i d)
place_of places node i d same small each =
    slice_get-get_or places node d (omega (arith, small, each)) ∙ ap (λ (k : ℕ). Some (get_or places k d)) (sym same)

-- the same by the indices of an array
pub next_found : (lines : List Line) (counts : ℕ → ℕ) (places : List ℕ) (node i j d at : ℕ) (l : Line) → i ≡ node → j ≡ node → node < 8 → AreAt lines counts places →
    IsNextAt lines node (get_or places i d) (Some at) → l ≡ get_or lines at l → GoesOn lines counts node (Some (get_or lines at l).number) (slice_set places j (at + 1))
next_found lines counts places node i j d at l first second small are next is =
    subst (λ (k : ℕ). GoesOn lines counts node (Some (get_or lines at l).number) (slice_set places k (at + 1))) (sym second)
    (goes_on lines counts places node (get_or places i d) at (get_or lines at l) are (place_of places node i d first small are.each) next (slice_get-get_or lines at l next.0))

pub next_missing : (lines : List Line) (counts : ℕ → ℕ) (places : List ℕ) (node i d : ℕ) → i ≡ node → node < 8 → AreAt lines counts places →
    IsNextAt lines node (get_or places i d) None → GoesOn lines counts node None places
next_missing lines counts places node i d first small are next =
    stays lines counts places node (get_or places i d) are (place_of places node i d first small are.each) next

-- ## one event after another

-- an event that completes no command prints nothing
pub prints_none : (lines : List Line) (counts : ℕ → ℕ) (e : Event) (text now places : List ℕ) → AreAt lines counts places →
    completion e.input e.done.answer ≡ None → now ≡ text → Prints lines counts e text now places
prints_none lines counts e text now places are none same = record {
  text = same ∙ sym (append-nil text) ∙ ap (λ (o : Option Command). text ++ flat_map output_line (output_at (body_of lines) counts e o)) (sym none);
  at = subst (λ (o : Option Command). AreAt lines (counts_after counts e.node o) places) (sym none) are;
}

-- nor does one whose node has no command left
pub prints_past : (lines : List Line) (counts : ℕ → ℕ) (e : Event) (c : Command) (text now places : List ℕ) → GoesOn lines counts e.node None places →
    completion e.input e.done.answer ≡ Some c → now ≡ text → Prints lines counts e text now places
prints_past lines counts e c text now places on completes same = record {
  text = same ∙ sym (append-nil text) ∙ ap (λ (o : Option Order). text ++ flat_map output_line (output_of o e.node c e.done.answer)) (sym (no_order (slice_get (program_of lines e.node) (counts e.node)) on.line))
      ∙ ap (λ (o : Option Command). text ++ flat_map output_line (output_at (body_of lines) counts e o)) (sym completes);
  at = subst (λ (o : Option Command). AreAt lines (counts_after counts e.node o) places) (sym completes) on.at;
}
  where
    no_order : (o : Option Order) → None ≡ option_map (λ (g : Order). g.line) o → o ≡ None
    no_order None h = refl
    no_order (Some g) h = absurd cc

-- another prints the line of its answer, or nothing
pub prints_line : (lines : List Line) (counts : ℕ → ℕ) (e : Event) (c : Command) (number : ℕ) (text now places : List ℕ) → GoesOn lines counts e.node (Some number) places →
    completion e.input e.done.answer ≡ Some c → now ≡ text ++ line_if e.node number (printed_of c e.done.answer) → Prints lines counts e text now places
prints_line lines counts e c number text now places on completes is = record {
  text = is ∙ ap (λ (t : List ℕ). text ++ t) (by_order (slice_get (program_of lines e.node) (counts e.node)) on.line)
      ∙ ap (λ (o : Option Command). text ++ flat_map output_line (output_at (body_of lines) counts e o)) (sym completes);
  at = subst (λ (o : Option Command). AreAt lines (counts_after counts e.node o) places) (sym completes) on.at;
}
  where
    by_order : (o : Option Order) → Some number ≡ option_map (λ (g : Order). g.line) o →
        line_if e.node number (printed_of c e.done.answer) ≡ flat_map output_line (output_of o e.node c e.done.answer)
    by_order None h = absurd cc
    by_order (Some g) h = (let same : number ≡ g.line = cc in ap (λ (k : ℕ). line_if e.node k (printed_of c e.done.answer)) same ∙ sym (printed_line g e.node c e.done.answer))

-- the text up to an event, and then what is still to come
pub one_more : (lines : List Line) (counts : ℕ → ℕ) (e : Event) (rest events : List Event) (i : ℕ) (text now places : List ℕ) → drop i events ≡ e ∷ rest →
    text ++ flat_map output_line (outputs (body_of lines) counts (drop i events)) ≡ text_of lines events →
    Prints lines counts e text now places →
    now ++ flat_map output_line (outputs (body_of lines) (counts_after counts e.node (completion e.input e.done.answer)) rest) ≡ text_of lines events
one_more lines counts e rest events i text now places next whole prints =
    let done : Option Command = completion e.input e.done.answer in
    let here : List Output = output_at (body_of lines) counts e done in
    let later : List Output = outputs (body_of lines) (counts_after counts e.node done) rest in
    ap (λ (t : List ℕ). t ++ flat_map output_line later) prints.text
    ∙ append_assoc text (flat_map output_line here) (flat_map output_line later)
    ∙ ap (λ (t : List ℕ). text ++ t) (sym (flat_map-append output_line here later))
    ∙ ap (λ (es : List Event). text ++ flat_map output_line (outputs (body_of lines) counts es)) (sym next)
    ∙ whole
