-- A word with a space is read as nothing, so the last word of a line needn't be cut off.
use Rattle.std.proofs.Common.{◌≡◌, ℕ, ◌<◌, ◌==◌, ◌&&◌, ℤ, not, Bool, true, false, cond, List, [], ◌∷◌, length, refl, ap, sym, ◌∙◌, arith, Result, Ok, Err}
use Rattle.std.specs.Prelude.{codes}
use Rattle.std.specs.List.{slice_split, onto_first}
use Rattle.std.proofs.lemmas.Bool.{false≢true}
use Rattle.std.proofs.lemmas.List.Splits.{length-slice_split, slice_split-cons_yes, slice_split-cons_no}
use Rattle.bmx_types.specs.declared.commands.Operand.{Operand}
use Rattle.bmx_numerals.specs.Numerals.{numeral, signed_numeral}
use Rattle.bmx_numerals.specs.declared.words.Misfit.{Misfit}
use Rattle.bmx_numerals.specs.declared.words.Misfit.TheVariants.{Form, Range}
use Rattle.bmx_numerals.specs.Words.{read_below, read_integer, read_both}
use Rattle.bmx_script.specs.declared.knowledge.Knowledge.{Knowledge}
use Rattle.bmx_script.specs.Grammar.{same_word}
use Rattle.bmx_script.specs.Inside.Parsing.{is_space, map_read, read_value, of_three, read_command, placed_line, line_of}
use Rattle.bmx_script.proofs.ReadLemmas.{is_form, below_form, integer_form}
use Rattle.bmx_script.proofs.Words.{has_no_space, split_last}
use Rattle.bmx_script.proofs.Plain.{is_plain, no_space, numeral_plain, signed_numeral_plain, operand_plain}
use Rattle.bmx_script.proofs.Operands.{behind, IsOperand, value_form}

-- what is read as something has no space
unread : {A : Type 0} (f : Result A Misfit) (w : List ℕ) → (is_form f ≡ false → is_plain w ≡ true) → has_no_space w ≡ false → f ≡ Err Form
unread (Err Form) w plain spaced = refl
unread (Err Range) w plain spaced = absurd (false≢true (sym spaced ∙ no_space w (plain refl)))
unread (Ok x) w plain spaced = absurd (false≢true (sym spaced ∙ no_space w (plain refl)))

below_spaced : (limit : ℕ) (w : List ℕ) → has_no_space w ≡ false → read_below limit w ≡ Err Form
below_spaced limit w = unread (read_below limit w) w (λ e. let n : (n : ℕ) × (w ≡ numeral n) = below_form limit w e in ap is_plain n.1 ∙ numeral_plain n.0)

integer_spaced : (w : List ℕ) → has_no_space w ≡ false → read_integer w ≡ Err Form
integer_spaced w = unread (read_integer w) w (λ e. let z : (z : ℤ) × (w ≡ signed_numeral z) = integer_form w e in ap is_plain z.1 ∙ signed_numeral_plain z.0)

value_spaced : (k : Knowledge) (w : List ℕ) → has_no_space w ≡ false → read_value k w ≡ Err Form
value_spaced k w = unread (read_value k w) w (λ e.
    let o : (o : Operand) × IsOperand (behind w ∷ []) w o = value_form k (behind w ∷ []) 0 w refl e in
    ap is_plain (sym o.1.word) ∙ operand_plain (behind w ∷ []) o.0 o.1.named)

-- nothing beside a word that is read as nothing
and_nothing : {A B : Type 0} (f : Result A Misfit) (g : Result B Misfit) → g ≡ Err Form → read_both f g ≡ Err Form
and_nothing (Err Form) g e = refl
and_nothing (Err Range) g e = rw e refl
and_nothing (Ok x) g e = rw e refl

either_way : {A : Type 0} (b : Bool) (x y : Result A Misfit) → x ≡ Err Form → y ≡ Err Form → cond b x y ≡ Err Form
either_way true x y p q = p
either_way false x y p q = q

made_of_nothing : {A B C : Type 0} (make : A × B → C) (f : Result A Misfit) (g : Result B Misfit) → g ≡ Err Form → map_read make (read_both f g) ≡ Err Form
made_of_nothing make f g e = ap (map_read make) (and_nothing f g e)

three_spaced : (k : Knowledge) (verb a b c : List ℕ) → has_no_space c ≡ false → of_three k verb a b c ≡ Err Form
three_spaced k verb a b c spaced =
    either_way (same_word verb (codes "new")) _ _ (made_of_nothing _ _ _ (below_spaced 33 c spaced))
    (either_way (same_word verb (codes "set")) _ _ (made_of_nothing _ _ _ (value_spaced k c spaced))
    (either_way (same_word verb (codes "add")) _ _ (made_of_nothing _ _ _ (integer_spaced c spaced))
    (either_way (same_word verb (codes "get")) _ _ (made_of_nothing _ _ _ (and_nothing _ _ (below_spaced 256 c spaced))) refl)))

-- how many words there are
some_words : (text : List ℕ) → 0 < length (slice_split is_space text)
some_words text = omega (arith, length-slice_split is_space text)

onto_more : (c : ℕ) (ws : List (List ℕ)) → 1 < length ws → 1 < length (onto_first c ws)
onto_more c [] h = absurd (omega arith)
onto_more c (v ∷ []) h = absurd (omega arith)
onto_more c (v ∷ w ∷ ws) h = omega arith

more_words : (w : List ℕ) → has_no_space w ≡ false → 1 < length (slice_split is_space w)
more_words [] h = cc
more_words (c ∷ w) h = cases (c == 32) refl (more_words w)
  where
    cases : (b : Bool) → (c == 32) ≡ b → (has_no_space w ≡ false → 1 < length (slice_split is_space w)) → 1 < length (slice_split is_space (c ∷ w))
    cases true e more = rw (slice_split-cons_yes is_space c w e) (omega (arith, some_words w))
    cases false e more = rw (slice_split-cons_no is_space c w e) (onto_more c (slice_split is_space w) (more (ap (λ b. not b && has_no_space w) (sym e) ∙ h)))

too_many : (k : Knowledge) (verb a b : List ℕ) (ws : List (List ℕ)) → 1 < length ws → read_command k verb (a ∷ b ∷ ws) ≡ Err Form
too_many k verb a b [] h = absurd (omega arith)
too_many k verb a b (c ∷ []) h = absurd (omega arith)
too_many k verb a b (c ∷ d ∷ ws) h = refl

-- a command by its first two operands and the text behind them
pub by_three : (k : Knowledge) (verb a b c : List ℕ) → of_three k verb a b c ≡ read_command k verb (a ∷ b ∷ slice_split is_space c)
by_three k verb a b c = cases (has_no_space c) refl
  where
    cases : (plain : Bool) → has_no_space c ≡ plain → of_three k verb a b c ≡ read_command k verb (a ∷ b ∷ slice_split is_space c)
    cases true h = ap (λ ws. read_command k verb (a ∷ b ∷ ws)) (sym (split_last c h))
    cases false h = three_spaced k verb a b c h ∙ sym (too_many k verb a b (slice_split is_space c) (more_words c h))

placed : (k : Knowledge) (node verb : List ℕ) (ws : List (List ℕ)) → 0 < length ws → placed_line k node (read_command k verb ws) ≡ line_of k (node ∷ verb ∷ ws)
placed k node verb [] some = absurd (omega arith)
placed k node verb (w ∷ ws) some = refl

-- a line by its first two words and the text behind them
pub by_verb : (k : Knowledge) (node verb text : List ℕ) → placed_line k node (read_command k verb (slice_split is_space text)) ≡ line_of k (node ∷ verb ∷ slice_split is_space text)
by_verb k node verb text = placed k node verb (slice_split is_space text) (some_words text)
