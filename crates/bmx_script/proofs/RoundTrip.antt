-- A printed script is read as the script.
use Rattle.std.proofs.Common.{◌≡◌, ℕ, ◌+◌, ◌-◌, ◌^◌, ◌<◌, ◌≤◌, ◌==◌, Bool, true, false, not, ◌&&◌, nat_lt, suc, zero, List, [], ◌∷◌, ◌++◌, length, replicate, Result, Ok, refl, ap, sym, ◌∙◌, subst, append_assoc, append-nil, arith}
use Rattle.std.proofs.lemmas.Bool.{and_parts, and_from, or_from, not-true, le-ltb, lt-ltb, leb-true}
use Rattle.std.proofs.lemmas.List.{length-append, length-replicate}
use Rattle.bmx_script.specs.declared.knowledge.Knowledge.{Knowledge}
use Rattle.bmx_script.specs.declared.lines.Line.{Line}
use Rattle.bmx_script.specs.declared.lines.Bad.{Bad}
use Rattle.bmx_script.specs.Spelling.{word_of, spelling, printed}
use Rattle.bmx_script.specs.Grammar.{named_on, nothing_known, known_after, known_after_all, is_long, is_skipped, is_comment, lines_of, IsGood, Reads, ends, skips, takes, IsReading, AreInOrder, AreNumbered, first_number, AreScript, bunches_of, script_text}
use Rattle.bmx_script.specs.Inside.Reader.{print_length}
use Rattle.bmx_script.proofs.Plain.{has_no_feed, are_words, line_no_feed, line_no_comment}
use Rattle.bmx_script.proofs.Named.{Agree, line_agrees, named_below, kept, IsProper, proper_after, named_words}

-- ## line feeds

feeds_cut : (n : ℕ) (rest : List ℕ) → lines_of (replicate n 10 ++ rest) ≡ replicate n [] ++ lines_of rest
feeds_cut zero rest = refl
feeds_cut (suc n) rest = ap (λ (x : List (List ℕ)). [] ∷ x) (feeds_cut n rest)

pub line_cut : (w rest : List ℕ) → has_no_feed w ≡ true → lines_of (w ++ 10 ∷ rest) ≡ w ∷ lines_of rest
line_cut [] rest h = refl
line_cut (c ∷ w) rest h =
    let parts : (not (c == 10) ≡ true) × (has_no_feed w ≡ true) = and_parts (not (c == 10)) (has_no_feed w) h in
    let differs : (c == 10) ≡ false = not-true (c == 10) parts.0 in
    rw (differs, line_cut w rest parts.1) refl

-- ## one line

near : (number end : ℕ) → number ≤ 20000 → end ≤ 2 ^ 20 → is_long number end ≡ false
near number end few short = or_from (nat_lt 20000 number) (nat_lt (2 ^ 20) end) (le-ltb 20000 number few) (le-ltb (2 ^ 20) end short)

-- empty lines are skipped
skipped_on : (n : ℕ) (k : Knowledge) (done : List Line) (number start : ℕ) (texts : List (List ℕ)) (answer : Result (List Line) Bad) (next end : ℕ)
    → next ≡ number + n → end ≡ start + n → (0 < n → 1 < number) → next ≤ 20001 → end ≤ 2 ^ 20
    → Reads k done next end texts answer → Reads k done number start (replicate n [] ++ texts) answer
skipped_on zero k done number start texts answer next end p q behind few short on =
    let here : next ≡ number = omega arith in
    let there : end ≡ start = omega arith in
    subst (λ (s : ℕ). Reads k done number s texts answer) there (subst (λ (m : ℕ). Reads k done m end texts answer) here on)
skipped_on (suc n) k done number start texts answer next end p q behind few short on =
    skips (near number (start + 1) (omega arith) (omega arith)) (and_from (nat_lt 1 number) true (lt-ltb 1 number (behind (omega arith))) refl)
    (skipped_on n k done (number + 1) (start + 1) texts answer next end (omega arith) (omega arith) (λ h. omega arith) few short on)

not_skipped : (number : ℕ) (text : List ℕ) → is_comment text ≡ false → is_skipped number text ≡ false
not_skipped number text h = rw h (never (nat_lt 1 number))
  where
    never : (b : Bool) → (b && false) ≡ false
    never true = refl
    never false = refl

-- ## all lines

pub numbered_below : (m : ℕ) (xs : List Line) → AreNumbered m 20001 xs → m ≤ 20000
numbered_below m [] h = omega arith
numbered_below m (x ∷ xs) h = let rest : x.number ≤ 20000 = numbered_below x.number xs h.1 in omega (arith, h.0, rest)

reads_on : (ws : List (List ℕ)) (k : Knowledge) (done ls : List Line) (above start : ℕ)
    → ws ≡ (known_after_all k ls).bunches → IsProper k → AreInOrder k ls → 3 ≤ (known_after_all k ls).section
    → AreNumbered above 20001 ls → (above ≡ 0 → first_number 1 ls ≡ 1) → start + length (printed ws (above + 1) ls) ≤ 2 ^ 20
    → Reads k done (above + 1) start (lines_of (printed ws (above + 1) ls)) (Ok (done ++ ls))
reads_on ws k done [] above start words proper order head numbers first short =
    subst (λ (x : List Line). Reads k done (above + 1) start [] (Ok x)) (sym (append-nil done)) (ends head)
reads_on ws k done (l ∷ ls) above start words proper order head numbers first short =
    let n : ℕ = l.number - (above + 1) in
    let rest : List ℕ = printed ws (l.number + 1) ls in
    let text : List ℕ = spelling ws l.what in
    let named : are_words k.bunches (named_on l.what) ≡ true = named_words k l.what proper order.2 in
    let agree : Agree (length k.bunches) ws k.bunches = λ b h. ap (λ (x : List (List ℕ)). word_of x b) words ∙ kept k (l ∷ ls) b h in
    let spelled : spelling ws l.what ≡ spelling k.bunches l.what = line_agrees (length k.bunches) ws k.bunches l.what agree (named_below k l.what order.2) in
    let whole : has_no_feed text ≡ true = ap has_no_feed spelled ∙ line_no_feed k.bunches l.what order.1 named in
    let cut : lines_of (replicate n 10 ++ (text ++ 10 ∷ rest)) ≡ replicate n [] ++ (text ∷ lines_of rest) = feeds_cut n (text ++ 10 ∷ rest) ∙ ap (λ (x : List (List ℕ)). replicate n [] ++ x) (line_cut text rest whole) in
    let room : length (replicate n 10 ++ (text ++ 10 ∷ rest)) ≡ n + (length text + (1 + length rest)) =
    length-append (replicate n 10) (text ++ 10 ∷ rest) ∙ ap (λ (m : ℕ). m + length (text ++ 10 ∷ rest)) (length-replicate n 10) ∙ ap (λ (m : ℕ). n + m) (length-append text (10 ∷ rest) ∙ omega arith) in
    let end : ℕ = start + n + (length text + 1) in
    let numbered : AreNumbered l.number 20001 ls = numbers.1 in
    let low : l.number ≤ 20000 = numbered_below l.number ls numbered in
    let good : IsGood k l.what text = record { form = record { stands = order.0; built = order.1; words = named; spelled = sym spelled }; range = order.2 } in
    let after : Reads (known_after k l.what) (done ++ l ∷ []) (l.number + 1) end (lines_of rest) (Ok ((done ++ l ∷ []) ++ ls)) =
    reads_on ws (known_after k l.what) (done ++ l ∷ []) ls l.number end words (proper_after k l.what proper order.1) order.3 head numbered (λ h. absurd (omega arith)) (omega arith) in
    let same : Reads (known_after k l.what) (done ++ l ∷ []) (l.number + 1) end (lines_of rest) (Ok (done ++ l ∷ ls)) =
    subst (λ (x : List Line). Reads (known_after k l.what) (done ++ l ∷ []) (l.number + 1) end (lines_of rest) (Ok x)) (append_assoc done (l ∷ []) ls) after in
    let here : Reads k done l.number (start + n) (text ∷ lines_of rest) (Ok (done ++ l ∷ ls)) =
    takes l.what (near l.number end low (omega arith)) (not_skipped l.number text (line_no_comment ws l.what)) good same in
    subst (λ (x : List (List ℕ)). Reads k done (above + 1) start x (Ok (done ++ l ∷ ls))) (sym cut)
    (skipped_on n k done (above + 1) start (text ∷ lines_of rest) (Ok (done ++ l ∷ ls)) l.number (start + n) (omega arith) refl
    (λ some. behind above (λ h. first h) some) (omega arith) (omega arith) here)
  where
    behind : (a : ℕ) → (a ≡ 0 → l.number ≡ 1) → 0 < l.number - (a + 1) → 1 < a + 1
    behind zero f some = absurd (omega (arith, f refl))
    behind (suc a) f some = omega arith

pub round_trip : (lines : List Line) → AreScript lines → IsReading (script_text lines) (Ok lines)
round_trip lines script =
    reads_on (bunches_of lines) nothing_known [] lines 0 0 refl (record { proper = λ b h. absurd (omega arith) }) script.order
    (leb-true 3 (known_after_all nothing_known lines).section script.head) script.numbers (λ _. script.first) (omega (arith, script.short))

-- ## how long the printed script is

length_by : (ws : List (List ℕ)) (k : Knowledge) (number : ℕ) (ls : List Line) (next : ℕ) → ws ≡ (known_after_all k ls).bunches → AreInOrder k ls
    → length (printed ws number ls) ≤ print_length k number ls next
length_by ws k number [] next words order = omega arith
length_by ws k number (l ∷ ls) next words order =
    let n : ℕ = l.number - number in
    let rest : List ℕ = printed ws (l.number + 1) ls in
    let agree : Agree (length k.bunches) ws k.bunches = λ b h. ap (λ (x : List (List ℕ)). word_of x b) words ∙ kept k (l ∷ ls) b h in
    let spelled : spelling ws l.what ≡ spelling k.bunches l.what = line_agrees (length k.bunches) ws k.bunches l.what agree (named_below k l.what order.2) in
    let room : length (replicate n 10 ++ (spelling ws l.what ++ 10 ∷ rest)) ≡ n + (length (spelling ws l.what) + (1 + length rest)) =
    length-append (replicate n 10) (spelling ws l.what ++ 10 ∷ rest) ∙ ap (λ (m : ℕ). m + length (spelling ws l.what ++ 10 ∷ rest)) (length-replicate n 10)
    ∙ ap (λ (m : ℕ). n + m) (length-append (spelling ws l.what) (10 ∷ rest) ∙ omega arith) in
    let same : length (spelling ws l.what) ≡ length (spelling k.bunches l.what) = ap (λ (x : List ℕ). length x) spelled in
    let more : length rest ≤ print_length (known_after k l.what) (l.number + 1) ls next = length_by ws (known_after k l.what) (l.number + 1) ls next words order.3 in
    omega (arith, room, same, more)

pub script_length : (lines : List Line) (next : ℕ) → AreInOrder nothing_known lines → length (script_text lines) ≤ print_length nothing_known 1 lines next
script_length lines next order = length_by (bunches_of lines) nothing_known 1 lines next refl order
