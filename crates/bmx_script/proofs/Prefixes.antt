-- Reading stops at a line that ends too far behind. So what the first bytes of a text come to, all of them come to.
use Rattle.std.proofs.Common.{◌≡◌, ℕ, ◌+◌, ◌^◌, ◌<◌, ◌≤◌, ◌↔◌, ◌==◌, Bool, true, false, not, suc, zero, List, [], ◌∷◌, ◌++◌, length, take, drop, Result, Err, refl, ap, sym, ◌∙◌, subst, append-nil, append_assoc, ⊎_elim, arith}
use Rattle.std.proofs.lemmas.Bool.{and_from, or_right, lt-ltb, eqb-true, not_from_false, not-true, and_parts, cases_lt, cases_Bool}
use Rattle.std.proofs.lemmas.List.{take_all, length-take-le, take-append-drop, length-append}
use Rattle.std.specs.List.{onto_first}
use Rattle.bmx_script.specs.declared.knowledge.Knowledge.{Knowledge}
use Rattle.bmx_script.specs.declared.lines.Line.{Line}
use Rattle.bmx_script.specs.declared.lines.Bad.{Bad}
use Rattle.bmx_script.specs.declared.lines.BadCause.{BadCause}
use Rattle.bmx_script.specs.declared.lines.BadCause.TheVariants as cause
use Rattle.bmx_script.specs.Grammar.{is_long, lines_of, IsBad, is_far, has_no_form, is_out_of_range, Reads, skips, takes, stops, nothing_known}
use Rattle.bmx_script.specs.Laws.{PrefixIsEnough}
use Rattle.bmx_script.proofs.Plain.{has_no_feed}
use Rattle.bmx_script.proofs.ReadLemmas.{if_false}
use Rattle.bmx_script.proofs.RoundTrip.{line_cut}
use Rattle.bmx_script.proofs.Sound.{near_bounds}

-- ## one line

not_both : {C : Type 0} (b : Bool) → b ≡ true → b ≡ false → C
not_both true h q = cc
not_both false h q = cc

why_far : (k : Knowledge) (number end : ℕ) (text : List ℕ) (why : BadCause) → IsBad k number end text why → is_long number end ≡ true → why ≡ cause.Long
why_far k number end text cause.Long (is_far far) long = refl
why_far k number end text cause.Form (has_no_form near here none) long = not_both (is_long number end) long near
why_far k number end text cause.Range (is_out_of_range near here form none) long = not_both (is_long number end) long near
why_far k number end text cause.End bad long = elim bad [ ]

-- reading stops at a line that ends too far behind
stops_there : (k : Knowledge) (lines : List Line) (number start : ℕ) (text : List ℕ) (texts : List (List ℕ)) (answer : Result (List Line) Bad) → is_long number (start + (length text + 1)) ≡ true
    → Reads k lines number start (text ∷ texts) answer → answer ≡ Err (record { line = number; cause = cause.Long })
stops_there k lines number start text texts answer long (skips near skipped on) = not_both (is_long number (start + (length text + 1))) long near
stops_there k lines number start text texts answer long (takes what near here good on) = not_both (is_long number (start + (length text + 1))) long near
stops_there k lines number start text texts answer long (stops why bad) =
    ap (λ (c : BadCause). Err (record { line = number; cause = c })) (why_far k number (start + (length text + 1)) text why bad long)

there_stops : (k : Knowledge) (lines : List Line) (number start : ℕ) (text : List ℕ) (texts : List (List ℕ)) (answer : Result (List Line) Bad) → is_long number (start + (length text + 1)) ≡ true
    → answer ≡ Err (record { line = number; cause = cause.Long }) → Reads k lines number start (text ∷ texts) answer
there_stops k lines number start text texts answer long is =
    subst (λ (a : Result (List Line) Bad). Reads k lines number start (text ∷ texts) a) (sym is) (stops cause.Long (is_far long))

-- whatever texts stand behind it
far_lines : (k : Knowledge) (lines : List Line) (number start : ℕ) (text other : List ℕ) (texts others : List (List ℕ)) (answer : Result (List Line) Bad)
    → is_long number (start + (length text + 1)) ≡ true → is_long number (start + (length other + 1)) ≡ true
    → Reads k lines number start (text ∷ texts) answer → Reads k lines number start (other ∷ others) answer
far_lines k lines number start text other texts others answer long too read =
    there_stops k lines number start other others answer too (stops_there k lines number start text texts answer long read)

-- and else reading goes on
near_line : (k : Knowledge) (lines : List Line) (number start : ℕ) (text : List ℕ) (texts others : List (List ℕ)) (answer : Result (List Line) Bad)
    → ((j : Knowledge) (done : List Line) → Reads j done (number + 1) (start + (length text + 1)) texts answer → Reads j done (number + 1) (start + (length text + 1)) others answer)
    → Reads k lines number start (text ∷ texts) answer → Reads k lines number start (text ∷ others) answer
near_line k lines number start text texts others answer then (skips near skipped on) = skips near skipped (then _ _ on)
near_line k lines number start text texts others answer then (takes what near here good on) = takes what near here good (then _ _ on)
near_line k lines number start text texts others answer then (stops why bad) = stops why bad

-- ## the first line of a text

-- a text has a line feed, or none
data Feeds (p : List ℕ) : Type 0 where
  Fed : (w behind : List ℕ) → has_no_feed w ≡ true → p ≡ w ++ 10 ∷ behind → Feeds p
  Unfed : has_no_feed p ≡ true → Feeds p

feeds_on : (c : ℕ) (p : List ℕ) → (c == 10) ≡ false → Feeds p → Feeds (c ∷ p)
feeds_on c p other (Fed w behind plain is) = Fed (c ∷ w) behind (and_from (not (c == 10)) (has_no_feed w) (not_from_false (c == 10) other) plain) (ap (λ x. c ∷ x) is)
feeds_on c p other (Unfed plain) = Unfed (and_from (not (c == 10)) (has_no_feed p) (not_from_false (c == 10) other) plain)

feeds : (p : List ℕ) → Feeds p
feeds [] = Unfed refl
feeds (c ∷ p) = ⊎_elim
    (λ (here : (c == 10) ≡ true). Fed [] p refl (ap (λ x. x ∷ p) (eqb-true c 10 here)))
    (λ (other : (c == 10) ≡ false). feeds_on c p other (feeds p))
    (cases_Bool (c == 10))

-- the first line of what begins with bytes that aren't one
record Begins (p bytes : List ℕ) : Type 0 where
  more : List ℕ
  rest : List (List ℕ)
  is : lines_of bytes ≡ (p ++ more) ∷ rest

onto_some : (c : ℕ) (texts : List (List ℕ)) → (more : List ℕ) × (rest : List (List ℕ)) × (onto_first c texts ≡ (c ∷ more) ∷ rest)
onto_some c [] = ([], [], refl)
onto_some c (text ∷ texts) = (text, texts, refl)

begins : (p s : List ℕ) → 0 < length p → has_no_feed p ≡ true → Begins p (p ++ s)
begins [] s some plain = absurd (omega arith)
begins (c ∷ []) s some plain =
    let other : (c == 10) ≡ false = not-true (c == 10) (and_parts (not (c == 10)) true plain).0 in
    let onto : (more : List ℕ) × (rest : List (List ℕ)) × (onto_first c (lines_of s) ≡ (c ∷ more) ∷ rest) = onto_some c (lines_of s) in
    record { more = onto.0; rest = onto.1; is = rw other onto.2 }
begins (c ∷ d ∷ p) s some plain =
    let parts : (not (c == 10) ≡ true) × (has_no_feed (d ∷ p) ≡ true) = and_parts (not (c == 10)) (has_no_feed (d ∷ p)) plain in
    let other : (c == 10) ≡ false = not-true (c == 10) parts.0 in
    let b : Begins (d ∷ p) (d ∷ p ++ s) = begins (d ∷ p) s (omega arith) parts.1 in
    record { more = b.more; rest = b.rest; is = if_false (c == 10) _ _ _ other (ap (onto_first c) b.is) }

far : (number start : ℕ) (p more : List ℕ) → 2 ^ 20 < start + length p → is_long number (start + (length (p ++ more) + 1)) ≡ true
far number start p more long = or_right _ _ (lt-ltb (2 ^ 20) (start + (length (p ++ more) + 1)) (omega (arith, length-append p more)))

-- ## a text, and the same with more behind it

-- two lists of lines are read alike
abbrev Alike : Knowledge → List Line → ℕ → ℕ → List (List ℕ) → List (List ℕ) → Result (List Line) Bad → Type 0
Alike k lines number start texts others answer = Reads k lines number start texts answer ↔ Reads k lines number start others answer

alike_of : (k : Knowledge) (lines : List Line) (number start : ℕ) (a b c d : List (List ℕ)) (answer : Result (List Line) Bad) → a ≡ c → b ≡ d → Alike k lines number start c d answer → Alike k lines number start a b answer
alike_of k lines number start a b c d answer p q alike = rw (p, q) alike

alike_far : (k : Knowledge) (lines : List Line) (number start : ℕ) (p s t : List ℕ) (answer : Result (List Line) Bad) → 0 < length p → has_no_feed p ≡ true → 2 ^ 20 < start + length p
    → Alike k lines number start (lines_of (p ++ s)) (lines_of (p ++ t)) answer
alike_far k lines number start p s t answer some plain long =
    let a : Begins p (p ++ s) = begins p s some plain in
    let b : Begins p (p ++ t) = begins p t some plain in
    alike_of k lines number start _ _ _ _ answer a.is b.is (
      far_lines k lines number start (p ++ a.more) (p ++ b.more) a.rest b.rest answer (far number start p a.more long) (far number start p b.more long),
      far_lines k lines number start (p ++ b.more) (p ++ a.more) b.rest a.rest answer (far number start p b.more long) (far number start p a.more long),
    )

-- a line, where what is behind it is read alike
alike_fed : (p s w behind : List ℕ) (k : Knowledge) (lines : List Line) (number start : ℕ) (answer : Result (List Line) Bad) → 2 ^ 20 < start + length p → has_no_feed w ≡ true → p ≡ w ++ 10 ∷ behind
    → ((j : Knowledge) (done : List Line) (m e : ℕ) → length behind < length p → e ≤ 2 ^ 20 → 2 ^ 20 < e + length behind → Alike j done m e (lines_of behind) (lines_of (behind ++ s)) answer)
    → Alike k lines number start (w ∷ lines_of behind) (w ∷ lines_of (behind ++ s)) answer
alike_fed p s w behind k lines number start answer long plain is then = ⊎_elim
    (λ (gone : is_long number (start + (length w + 1)) ≡ true).
    (far_lines k lines number start w w (lines_of behind) (lines_of (behind ++ s)) answer gone gone, far_lines k lines number start w w (lines_of (behind ++ s)) (lines_of behind) answer gone gone))
    (λ (near : is_long number (start + (length w + 1)) ≡ false).
    let room : length p ≡ length w + (1 + length behind) = ap length is ∙ length-append w (10 ∷ behind) ∙ omega arith in
    let bound : (number ≤ 20000) × (start + (length w + 1) ≤ 2 ^ 20) = near_bounds number (start + (length w + 1)) near in
    let on : (j : Knowledge) (done : List Line) → Alike j done (number + 1) (start + (length w + 1)) (lines_of behind) (lines_of (behind ++ s)) answer =
    λ j done. then j done (number + 1) (start + (length w + 1)) (omega (arith, room)) bound.1 (omega (arith, room)) in
    (near_line k lines number start w (lines_of behind) (lines_of (behind ++ s)) answer (λ j done. (on j done).0), near_line k lines number start w (lines_of (behind ++ s)) (lines_of behind) answer (λ j done. (on j done).1)))
    (cases_Bool (is_long number (start + (length w + 1))))

alike_by : (p s : List ℕ) (k : Knowledge) (lines : List Line) (number start : ℕ) (answer : Result (List Line) Bad) → start ≤ 2 ^ 20 → 2 ^ 20 < start + length p
    → ((behind : List ℕ) (j : Knowledge) (done : List Line) (m e : ℕ) → length behind < length p → e ≤ 2 ^ 20 → 2 ^ 20 < e + length behind → Alike j done m e (lines_of behind) (lines_of (behind ++ s)) answer)
    → Feeds p → Alike k lines number start (lines_of p) (lines_of (p ++ s)) answer
alike_by p s k lines number start answer low long then (Fed w behind plain is) =
    alike_of k lines number start _ _ (w ∷ lines_of behind) (w ∷ lines_of (behind ++ s)) answer
    (ap lines_of is ∙ line_cut w behind plain)
    (ap (λ x. lines_of (x ++ s)) is ∙ ap lines_of (append_assoc w (10 ∷ behind) s) ∙ line_cut w (behind ++ s) plain)
    (alike_fed p s w behind k lines number start answer long plain is (λ j done m e shorter. then behind j done m e shorter))
alike_by p s k lines number start answer low long then (Unfed plain) =
    subst (λ (x : List ℕ). Alike k lines number start (lines_of x) (lines_of (p ++ s)) answer) (append-nil p)
    (alike_far k lines number start p [] s answer (omega arith) plain long)

alike : (fuel : ℕ) (p s : List ℕ) (k : Knowledge) (lines : List Line) (number start : ℕ) (answer : Result (List Line) Bad) → length p ≤ fuel → start ≤ 2 ^ 20 → 2 ^ 20 < start + length p
    → Alike k lines number start (lines_of p) (lines_of (p ++ s)) answer
alike zero p s k lines number start answer small low long = absurd (omega arith)
alike (suc n) p s k lines number start answer small low long =
    alike_by p s k lines number start answer low long (λ behind j done m e shorter under more. alike n behind s j done m e answer (omega arith) under more) (feeds p)

pub prefix_is_enough : PrefixIsEnough
prefix_is_enough bytes answer = ⊎_elim
    (λ (short : length bytes < 2 ^ 20 + 1). rw (take_all (2 ^ 20 + 1) bytes (omega arith)) (λ h. h, λ h. h))
    (λ (long : 2 ^ 20 + 1 ≤ length bytes).
    let prefix : List ℕ = take (2 ^ 20 + 1) bytes in
    let full : length prefix ≡ 2 ^ 20 + 1 = length-take-le (2 ^ 20 + 1) bytes long in
    subst (λ (x : List ℕ). Alike nothing_known [] 1 0 (lines_of prefix) (lines_of x) answer) (take-append-drop (2 ^ 20 + 1) bytes)
    (alike (2 ^ 20 + 1) prefix (drop (2 ^ 20 + 1) bytes) nothing_known [] 1 0 answer (omega arith) (omega arith) (omega arith)))
    (cases_lt (length bytes) (2 ^ 20 + 1))
