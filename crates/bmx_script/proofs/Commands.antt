-- What the words of a command come to is what the grammar says of commands.
use Rattle.std.proofs.Common.{◌≡◌, ℕ, ℤ, true, false, ◌&&◌, nat_lt, nat_le, List, [], ◌∷◌, length, refl, ap, ◌∙◌, subst, arith, Result, Ok}
use Rattle.std.specs.Prelude.{codes}
use Rattle.std.proofs.lemmas.Bool.{and_parts, ltb-true, lt-ltb, leb-true, le-leb}
use Rattle.bmx_types.specs.declared.commands.Operand.{Operand}
use Rattle.bmx_types.specs.declared.commands.Command.{Command}
use Rattle.bmx_types.specs.declared.commands.Command.TheVariants as command
use Rattle.bmx_numerals.specs.declared.words.Misfit.{Misfit}
use Rattle.bmx_numerals.specs.Numerals.{numeral, signed_numeral}
use Rattle.bmx_types.specs.Integers.{is_i64}
use Rattle.bmx_numerals.specs.Words.{read_below, read_integer, read_both}
use Rattle.bmx_script.specs.declared.knowledge.Knowledge.{Knowledge}
use Rattle.bmx_script.specs.Spelling.{word_of, register_word, operand_word, verb_word, operand_words, command_words}
use Rattle.bmx_script.specs.Grammar.{is_source, is_built_command, same_word, named_by, named_in, fits_operand, fits_command}
use Rattle.bmx_script.specs.Inside.Distinct.{AreDistinct}
use Rattle.bmx_script.specs.Inside.Parsing.{map_read, read_register, read_bunch, read_source, read_value, read_place, of_one, of_two, of_three, read_command}
use Rattle.bmx_script.proofs.ReadLemmas.{is_form, split_if, form_and, form_map, and_form, map_form, good_and, good_map, and_good, map_good, form_below, below_form, below_good, good_below, form_integer, integer_form, integer_good, good_integer, form_register, register_form, register_good, good_register}
use Rattle.bmx_script.proofs.Words.{same_word-true}
use Rattle.bmx_script.proofs.Plain.{are_words, the_word, both_words}
use Rattle.bmx_script.proofs.Operands.{both, words_both, one_word, choose_form, behind, form_bunch, bunch_form, bunch_good, good_bunch, IsBunch, IsOperand, IsSource, form_source, good_source, source_form, source_good, form_value, good_value, value_form, value_good, form_place, good_place, place_form, place_good, IsPlace, FitsPlace}

-- ## a command that is spelled so

pub form_command : (k : Knowledge) (ws : List (List ℕ)) (c : Command) → is_built_command c ≡ true → are_words ws (named_in c) ≡ true → is_form (read_command k (verb_word c) (operand_words ws c)) ≡ false
form_command k ws (command.New r b s) built named = form_map _ _ (form_and _ _ (form_and _ _ (form_register r) (form_bunch k (word_of ws b) (the_word ws b named))) (form_below 33 s))
form_command k ws (command.Copy r v) built named = form_map _ _ (form_and _ _ (form_register r) (form_value k ws v named))
form_command k ws (command.Drop r) built named = form_map _ _ (form_register r)
form_command k ws (command.Read on) built named = form_map _ _ (form_source k ws on built named)
form_command k ws (command.Write on) built named = form_map _ _ (form_source k ws on built named)
form_command k ws (command.Done on) built named = form_map _ _ (form_source k ws on built named)
form_command k ws (command.Set on i v) built named =
    let words : (are_words ws (named_by on) ≡ true) × (are_words ws (named_by v) ≡ true) = both_words ws (named_by on) (named_by v) named in
    form_map _ _ (form_and _ _ (form_place k ws on i built words.0) (form_value k ws v words.1))
form_command k ws (command.Add on i z) built named = form_map _ _ (form_and _ _ (form_place k ws on i built named) (form_integer z))
form_command k ws (command.Get r on i) built named = form_map _ _ (form_and _ _ (form_register r) (form_place k ws on i built named))
form_command k ws (command.Show on i) built named = form_map _ _ (form_place k ws on i built named)
form_command k ws (command.Same l r) built named =
    let words : (are_words ws (named_by l) ≡ true) × (are_words ws (named_by r) ≡ true) = both_words ws (named_by l) (named_by r) named in
    form_map _ _ (form_and _ _ (form_value k ws l words.0) (form_value k ws r words.1))

pub good_command : (k : Knowledge) (c : Command) → AreDistinct k.bunches → is_built_command c ≡ true → are_words k.bunches (named_in c) ≡ true → fits_command (length k.bunches) c ≡ true
    → read_command k (verb_word c) (operand_words k.bunches c) ≡ Ok c
good_command k (command.New r b s) distinct built named fits =
    let first : (nat_lt r 16 ≡ true) × ((nat_lt b (length k.bunches) && nat_le s 32) ≡ true) = and_parts (nat_lt r 16) (nat_lt b (length k.bunches) && nat_le s 32) fits in
    let more : (nat_lt b (length k.bunches) ≡ true) × (nat_le s 32 ≡ true) = and_parts (nat_lt b (length k.bunches)) (nat_le s 32) first.1 in
    let size : nat_lt s 33 ≡ true = lt-ltb s 33 (omega (arith, leb-true s 32 more.1)) in
    good_map _ _ ((r, b), s) (good_and _ _ (r, b) s (good_and _ _ r b (good_register r first.0) (good_bunch k b distinct more.0 (the_word k.bunches b named))) (good_below 33 s size))
good_command k (command.Copy r v) distinct built named fits =
    let parts : (nat_lt r 16 ≡ true) × (fits_operand (length k.bunches) v ≡ true) = and_parts (nat_lt r 16) (fits_operand (length k.bunches) v) fits in
    good_map _ _ (r, v) (good_and _ _ r v (good_register r parts.0) (good_value k v distinct named parts.1))
good_command k (command.Drop r) distinct built named fits = good_map _ _ r (good_register r fits)
good_command k (command.Read on) distinct built named fits = good_map _ _ on (good_source k on distinct built named fits)
good_command k (command.Write on) distinct built named fits = good_map _ _ on (good_source k on distinct built named fits)
good_command k (command.Done on) distinct built named fits = good_map _ _ on (good_source k on distinct built named fits)
good_command k (command.Set on i v) distinct built named fits =
    let words : (are_words k.bunches (named_by on) ≡ true) × (are_words k.bunches (named_by v) ≡ true) = both_words k.bunches (named_by on) (named_by v) named in
    let first : (fits_operand (length k.bunches) on ≡ true) × ((nat_lt i 256 && fits_operand (length k.bunches) v) ≡ true) = and_parts (fits_operand (length k.bunches) on) (nat_lt i 256 && fits_operand (length k.bunches) v) fits in
    let more : (nat_lt i 256 ≡ true) × (fits_operand (length k.bunches) v ≡ true) = and_parts (nat_lt i 256) (fits_operand (length k.bunches) v) first.1 in
    good_map _ _ ((on, i), v) (good_and _ _ (on, i) v (good_place k on i distinct built words.0 first.0 more.0) (good_value k v distinct words.1 more.1))
good_command k (command.Add on i z) distinct built named fits =
    let first : (fits_operand (length k.bunches) on ≡ true) × ((nat_lt i 256 && is_i64 z) ≡ true) = and_parts (fits_operand (length k.bunches) on) (nat_lt i 256 && is_i64 z) fits in
    let more : (nat_lt i 256 ≡ true) × (is_i64 z ≡ true) = and_parts (nat_lt i 256) (is_i64 z) first.1 in
    good_map _ _ ((on, i), z) (good_and _ _ (on, i) z (good_place k on i distinct built named first.0 more.0) (good_integer z more.1))
good_command k (command.Get r on i) distinct built named fits =
    let first : (nat_lt r 16 ≡ true) × ((fits_operand (length k.bunches) on && nat_lt i 256) ≡ true) = and_parts (nat_lt r 16) (fits_operand (length k.bunches) on && nat_lt i 256) fits in
    let more : (fits_operand (length k.bunches) on ≡ true) × (nat_lt i 256 ≡ true) = and_parts (fits_operand (length k.bunches) on) (nat_lt i 256) first.1 in
    good_map _ _ (r, (on, i)) (good_and _ _ r (on, i) (good_register r first.0) (good_place k on i distinct built named more.0 more.1))
good_command k (command.Show on i) distinct built named fits =
    let parts : (fits_operand (length k.bunches) on ≡ true) × (nat_lt i 256 ≡ true) = and_parts (fits_operand (length k.bunches) on) (nat_lt i 256) fits in
    good_map _ _ (on, i) (good_place k on i distinct built named parts.0 parts.1)
good_command k (command.Same l r) distinct built named fits =
    let words : (are_words k.bunches (named_by l) ≡ true) × (are_words k.bunches (named_by r) ≡ true) = both_words k.bunches (named_by l) (named_by r) named in
    let parts : (fits_operand (length k.bunches) l ≡ true) × (fits_operand (length k.bunches) r ≡ true) = and_parts (fits_operand (length k.bunches) l) (fits_operand (length k.bunches) r) fits in
    good_map _ _ (l, r) (good_and _ _ l r (good_value k l distinct words.0 parts.0) (good_value k r distinct words.1 parts.1))

-- ## words with the form of a command

-- words that some command has, and which bunch words it goes by
pub record HasCommand (verb : List ℕ) (operands : List (List ℕ)) : Type 0 where
  pub bunches : List (List ℕ)
  pub command : Command
  pub built : is_built_command command ≡ true
  pub named : are_words bunches (named_in command) ≡ true
  pub words_are : command_words bunches command ≡ verb ∷ operands

-- a command on a source alone
on_form : (k : Knowledge) (verb a : List ℕ) (make : Operand → Command) → ((o : Operand) → is_built_command (make o) ≡ is_source o) → ((o : Operand) → named_in (make o) ≡ named_by o)
    → ((ws : List (List ℕ)) (o : Operand) → command_words ws (make o) ≡ verb ∷ operand_word ws o ∷ []) → is_form (read_source k a) ≡ false → HasCommand verb (a ∷ [])
on_form k verb a make built named spelled f =
    let s : (o : Operand) × IsSource (behind a ∷ []) a o = source_form k (behind a ∷ []) 0 a refl f in
    record {
      bunches = behind a ∷ [];
      command = make s.0;
      built = built s.0 ∙ s.1.source;
      named = ap (are_words (behind a ∷ [])) (named s.0) ∙ s.1.is.named;
      words_are = spelled (behind a ∷ []) s.0 ∙ ap (λ (w : List ℕ). verb ∷ w ∷ []) s.1.is.word;
    }

one_form : (k : Knowledge) (verb a : List ℕ) → is_form (of_one k verb a) ≡ false → HasCommand verb (a ∷ [])
one_form k verb a e = choose_form (same_word verb (codes "drop")) _ _ e
    (λ v f.
    let r : (r : ℕ) × (a ≡ register_word r) = register_form a (map_form _ _ f) in
    record { bunches = []; command = command.Drop r.0; built = refl; named = refl; words_are = cc (same_word-true verb (codes "drop") v, r.1) })
    (λ _ g. choose_form (same_word verb (codes "read")) _ _ g
    (λ v f. on_form k verb a (λ o. command.Read o) (λ o. refl) (λ o. refl) (λ ws o. cc (same_word-true verb (codes "read") v)) (map_form _ _ f))
    (λ _ h. choose_form (same_word verb (codes "write")) _ _ h
    (λ v f. on_form k verb a (λ o. command.Write o) (λ o. refl) (λ o. refl) (λ ws o. cc (same_word-true verb (codes "write") v)) (map_form _ _ f))
    (λ _ i. choose_form (same_word verb (codes "done")) _ _ i
    (λ v f. on_form k verb a (λ o. command.Done o) (λ o. refl) (λ o. refl) (λ ws o. cc (same_word-true verb (codes "done") v)) (map_form _ _ f))
    (λ _ f. cc))))

two_form : (k : Knowledge) (verb a b : List ℕ) → is_form (of_two k verb a b) ≡ false → HasCommand verb (a ∷ b ∷ [])
two_form k verb a b e = choose_form (same_word verb (codes "copy")) _ _ e
    (λ v f.
    let parts : (is_form (read_register a) ≡ false) × (is_form (read_value k b) ≡ false) = and_form _ _ (map_form _ _ f) in
    let r : (r : ℕ) × (a ≡ register_word r) = register_form a parts.0 in
    let o : (o : Operand) × IsOperand (behind b ∷ []) b o = value_form k (behind b ∷ []) 0 b refl parts.1 in
    let word : operand_word (behind b ∷ []) o.0 ≡ b = o.1.word in
    record { bunches = behind b ∷ []; command = command.Copy r.0 o.0; built = refl; named = o.1.named; words_are = cc (same_word-true verb (codes "copy") v, r.1, word) })
    (λ _ g. choose_form (same_word verb (codes "show")) _ _ g
    (λ v f.
    let p : (o : Operand) × (i : ℕ) × IsPlace (behind a ∷ []) a b o i = place_form k (behind a ∷ []) 0 a b refl (map_form _ _ f) in
    let word : operand_word (behind a ∷ []) p.0 ≡ a = p.2.source.is.word in
    let index : b ≡ numeral p.1 = p.2.at in
    record { bunches = behind a ∷ []; command = command.Show p.0 p.1; built = p.2.source.source; named = p.2.source.is.named; words_are = cc (same_word-true verb (codes "show") v, word, index) })
    (λ _ h. choose_form (same_word verb (codes "same")) _ _ h
    (λ v f.
    let ws : List (List ℕ) = behind a ∷ behind b ∷ [] in
    let parts : (is_form (read_value k a) ≡ false) × (is_form (read_value k b) ≡ false) = and_form _ _ (map_form _ _ f) in
    let l : (o : Operand) × IsOperand ws a o = value_form k ws 0 a refl parts.0 in
    let r : (o : Operand) × IsOperand ws b o = value_form k ws 1 b refl parts.1 in
    let left : operand_word ws l.0 ≡ a = l.1.word in
    let right : operand_word ws r.0 ≡ b = r.1.word in
    record { bunches = ws; command = command.Same l.0 r.0; built = refl; named = words_both ws (named_by l.0) (named_by r.0) l.1.named r.1.named; words_are = cc (same_word-true verb (codes "same") v, left, right) })
    (λ _ f. cc)))

three_form : (k : Knowledge) (verb a b c : List ℕ) → is_form (of_three k verb a b c) ≡ false → HasCommand verb (a ∷ b ∷ c ∷ [])
three_form k verb a b c e = choose_form (same_word verb (codes "new")) _ _ e
    (λ v f.
    let parts : (is_form (read_both (read_register a) (read_bunch k b)) ≡ false) × (is_form (read_below 33 c) ≡ false) = and_form _ _ (map_form _ _ f) in
    let first : (is_form (read_register a) ≡ false) × (is_form (read_bunch k b) ≡ false) = and_form _ _ parts.0 in
    let r : (r : ℕ) × (a ≡ register_word r) = register_form a first.0 in
    let s : (s : ℕ) × (c ≡ numeral s) = below_form 33 c parts.1 in
    record { bunches = b ∷ []; command = command.New r.0 0 s.0; built = refl; named = one_word (b ∷ []) 0 b refl (bunch_form k b first.1); words_are = cc (same_word-true verb (codes "new") v, r.1, s.1) })
    (λ _ g. choose_form (same_word verb (codes "set")) _ _ g
    (λ v f.
    let ws : List (List ℕ) = behind a ∷ behind c ∷ [] in
    let parts : (is_form (read_place k a b) ≡ false) × (is_form (read_value k c) ≡ false) = and_form _ _ (map_form _ _ f) in
    let p : (o : Operand) × (i : ℕ) × IsPlace ws a b o i = place_form k ws 0 a b refl parts.0 in
    let o : (o : Operand) × IsOperand ws c o = value_form k ws 1 c refl parts.1 in
    let on : operand_word ws p.0 ≡ a = p.2.source.is.word in
    let index : b ≡ numeral p.1 = p.2.at in
    let value : operand_word ws o.0 ≡ c = o.1.word in
    record { bunches = ws; command = command.Set p.0 p.1 o.0; built = p.2.source.source; named = words_both ws (named_by p.0) (named_by o.0) p.2.source.is.named o.1.named; words_are = cc (same_word-true verb (codes "set") v, on, index, value) })
    (λ _ h. choose_form (same_word verb (codes "add")) _ _ h
    (λ v f.
    let ws : List (List ℕ) = behind a ∷ [] in
    let parts : (is_form (read_place k a b) ≡ false) × (is_form (read_integer c) ≡ false) = and_form _ _ (map_form _ _ f) in
    let p : (o : Operand) × (i : ℕ) × IsPlace ws a b o i = place_form k ws 0 a b refl parts.0 in
    let z : (z : ℤ) × (c ≡ signed_numeral z) = integer_form c parts.1 in
    let on : operand_word ws p.0 ≡ a = p.2.source.is.word in
    let index : b ≡ numeral p.1 = p.2.at in
    record { bunches = ws; command = command.Add p.0 p.1 z.0; built = p.2.source.source; named = p.2.source.is.named; words_are = cc (same_word-true verb (codes "add") v, on, index, z.1) })
    (λ _ i. choose_form (same_word verb (codes "get")) _ _ i
    (λ v f.
    let ws : List (List ℕ) = behind b ∷ [] in
    let parts : (is_form (read_register a) ≡ false) × (is_form (read_place k b c) ≡ false) = and_form _ _ (map_form _ _ f) in
    let r : (r : ℕ) × (a ≡ register_word r) = register_form a parts.0 in
    let p : (o : Operand) × (i : ℕ) × IsPlace ws b c o i = place_form k ws 0 b c refl parts.1 in
    let on : operand_word ws p.0 ≡ b = p.2.source.is.word in
    let index : c ≡ numeral p.1 = p.2.at in
    record { bunches = ws; command = command.Get r.0 p.0 p.1; built = p.2.source.source; named = p.2.source.is.named; words_are = cc (same_word-true verb (codes "get") v, r.1, on, index) })
    (λ _ f. cc))))

pub command_form : (k : Knowledge) (verb : List ℕ) (operands : List (List ℕ)) → is_form (read_command k verb operands) ≡ false → HasCommand verb operands
command_form k verb [] e = cc
command_form k verb (a ∷ []) e = one_form k verb a e
command_form k verb (a ∷ b ∷ []) e = two_form k verb a b e
command_form k verb (a ∷ b ∷ c ∷ []) e = three_form k verb a b c e
command_form k verb (a ∷ b ∷ c ∷ d ∷ more) e = cc

-- ## what is known of a command that is read

pub record IsCommand (k : Knowledge) (verb : List ℕ) (operands : List (List ℕ)) (c : Command) : Type 0 where
  pub built : is_built_command c ≡ true
  pub named : are_words k.bunches (named_in c) ≡ true
  pub words_are : command_words k.bunches c ≡ verb ∷ operands
  pub fits : fits_command (length k.bunches) c ≡ true

-- a command that was made of a field
made_good : {A : Type 0} (k : Knowledge) (verb : List ℕ) (operands : List (List ℕ)) (make : A → Command) (f : Result A Misfit) (c : Command) → map_read make f ≡ Ok c
    → ((x : A) → f ≡ Ok x → IsCommand k verb operands (make x)) → IsCommand k verb operands c
made_good {A} k verb operands make f c e then =
    let found : (x : A) × (f ≡ Ok x) × (make x ≡ c) = map_good make f c e in
    subst (λ (d : Command). IsCommand k verb operands d) found.2 (then found.0 found.1)

on_good : (k : Knowledge) (verb a : List ℕ) (make : Operand → Command) (c : Command) → ((o : Operand) → is_built_command (make o) ≡ is_source o) → ((o : Operand) → named_in (make o) ≡ named_by o)
    → ((o : Operand) → command_words k.bunches (make o) ≡ verb ∷ operand_word k.bunches o ∷ []) → ((o : Operand) → fits_command (length k.bunches) (make o) ≡ fits_operand (length k.bunches) o)
    → map_read make (read_source k a) ≡ Ok c → IsCommand k verb (a ∷ []) c
on_good k verb a make c built named spelled fits f = made_good k verb (a ∷ []) make (read_source k a) c f
    (λ o e.
    let s : IsSource k.bunches a o × (fits_operand (length k.bunches) o ≡ true) = source_good k a o e in
    record {
      built = built o ∙ s.0.source;
      named = ap (are_words k.bunches) (named o) ∙ s.0.is.named;
      words_are = spelled o ∙ ap (λ (w : List ℕ). verb ∷ w ∷ []) s.0.is.word;
      fits = fits o ∙ s.1;
    })

one_good : (k : Knowledge) (verb a : List ℕ) (c : Command) → of_one k verb a ≡ Ok c → IsCommand k verb (a ∷ []) c
one_good k verb a c e = split_if (same_word verb (codes "drop")) _ _ (Ok c) e
    (λ v f. made_good k verb (a ∷ []) _ _ c f (λ r g.
    let is : (a ≡ register_word r) × (nat_lt r 16 ≡ true) = register_good a r g in
    record { built = refl; named = refl; words_are = cc (same_word-true verb (codes "drop") v, is.0); fits = is.1 }))
    (λ _ g. split_if (same_word verb (codes "read")) _ _ (Ok c) g
    (λ v f. on_good k verb a (λ o. command.Read o) c (λ o. refl) (λ o. refl) (λ o. cc (same_word-true verb (codes "read") v)) (λ o. refl) f)
    (λ _ h. split_if (same_word verb (codes "write")) _ _ (Ok c) h
    (λ v f. on_good k verb a (λ o. command.Write o) c (λ o. refl) (λ o. refl) (λ o. cc (same_word-true verb (codes "write") v)) (λ o. refl) f)
    (λ _ i. split_if (same_word verb (codes "done")) _ _ (Ok c) i
    (λ v f. on_good k verb a (λ o. command.Done o) c (λ o. refl) (λ o. refl) (λ o. cc (same_word-true verb (codes "done") v)) (λ o. refl) f)
    (λ _ f. cc))))

two_good : (k : Knowledge) (verb a b : List ℕ) (c : Command) → of_two k verb a b ≡ Ok c → IsCommand k verb (a ∷ b ∷ []) c
two_good k verb a b c e = split_if (same_word verb (codes "copy")) _ _ (Ok c) e
    (λ v f. made_good k verb (a ∷ b ∷ []) _ _ c f (λ p g.
    let parts : (read_register a ≡ Ok p.0) × (read_value k b ≡ Ok p.1) = and_good _ _ p g in
    let r : (a ≡ register_word p.0) × (nat_lt p.0 16 ≡ true) = register_good a p.0 parts.0 in
    let o : IsOperand k.bunches b p.1 × (fits_operand (length k.bunches) p.1 ≡ true) = value_good k b p.1 parts.1 in
    let word : operand_word k.bunches p.1 ≡ b = o.0.word in
    record { built = refl; named = o.0.named; words_are = cc (same_word-true verb (codes "copy") v, r.0, word); fits = both r.1 o.1 }))
    (λ _ g. split_if (same_word verb (codes "show")) _ _ (Ok c) g
    (λ v f. made_good k verb (a ∷ b ∷ []) _ _ c f (λ p h.
    let is : FitsPlace k a b p.0 p.1 = place_good k a b p h in
    let word : operand_word k.bunches p.0 ≡ a = is.place.source.is.word in
    let index : b ≡ numeral p.1 = is.place.at in
    record { built = is.place.source.source; named = is.place.source.is.named; words_are = cc (same_word-true verb (codes "show") v, word, index); fits = both is.fits is.below }))
    (λ _ h. split_if (same_word verb (codes "same")) _ _ (Ok c) h
    (λ v f. made_good k verb (a ∷ b ∷ []) _ _ c f (λ p i.
    let parts : (read_value k a ≡ Ok p.0) × (read_value k b ≡ Ok p.1) = and_good _ _ p i in
    let l : IsOperand k.bunches a p.0 × (fits_operand (length k.bunches) p.0 ≡ true) = value_good k a p.0 parts.0 in
    let r : IsOperand k.bunches b p.1 × (fits_operand (length k.bunches) p.1 ≡ true) = value_good k b p.1 parts.1 in
    let left : operand_word k.bunches p.0 ≡ a = l.0.word in
    let right : operand_word k.bunches p.1 ≡ b = r.0.word in
    record { built = refl; named = words_both k.bunches (named_by p.0) (named_by p.1) l.0.named r.0.named; words_are = cc (same_word-true verb (codes "same") v, left, right); fits = both l.1 r.1 }))
    (λ _ f. cc)))

three_good : (k : Knowledge) (verb a b c : List ℕ) (d : Command) → of_three k verb a b c ≡ Ok d → IsCommand k verb (a ∷ b ∷ c ∷ []) d
three_good k verb a b c d e = split_if (same_word verb (codes "new")) _ _ (Ok d) e
    (λ v f. made_good k verb (a ∷ b ∷ c ∷ []) _ _ d f (λ p g.
    let parts : (read_both (read_register a) (read_bunch k b) ≡ Ok p.0) × (read_below 33 c ≡ Ok p.1) = and_good _ _ p g in
    let first : (read_register a ≡ Ok p.0.0) × (read_bunch k b ≡ Ok p.0.1) = and_good _ _ p.0 parts.0 in
    let r : (a ≡ register_word p.0.0) × (nat_lt p.0.0 16 ≡ true) = register_good a p.0.0 first.0 in
    let bunch : IsBunch k b p.0.1 = bunch_good k b p.0.1 first.1 in
    let s : (c ≡ numeral p.1) × (nat_lt p.1 33 ≡ true) = below_good 33 c p.1 parts.1 in
    let called : word_of k.bunches p.0.1 ≡ b = bunch.called in
    record { built = refl; named = one_word k.bunches p.0.1 b called bunch.proper; words_are = cc (same_word-true verb (codes "new") v, r.0, called, s.0); fits = both r.1 (both bunch.known (le-leb p.1 32 (omega (arith, ltb-true p.1 33 s.1)))) }))
    (λ _ g. split_if (same_word verb (codes "set")) _ _ (Ok d) g
    (λ v f. made_good k verb (a ∷ b ∷ c ∷ []) _ _ d f (λ p h.
    let parts : (read_place k a b ≡ Ok p.0) × (read_value k c ≡ Ok p.1) = and_good _ _ p h in
    let is : FitsPlace k a b p.0.0 p.0.1 = place_good k a b p.0 parts.0 in
    let o : IsOperand k.bunches c p.1 × (fits_operand (length k.bunches) p.1 ≡ true) = value_good k c p.1 parts.1 in
    let on : operand_word k.bunches p.0.0 ≡ a = is.place.source.is.word in
    let index : b ≡ numeral p.0.1 = is.place.at in
    let value : operand_word k.bunches p.1 ≡ c = o.0.word in
    record { built = is.place.source.source; named = words_both k.bunches (named_by p.0.0) (named_by p.1) is.place.source.is.named o.0.named; words_are = cc (same_word-true verb (codes "set") v, on, index, value); fits = both is.fits (both is.below o.1) }))
    (λ _ h. split_if (same_word verb (codes "add")) _ _ (Ok d) h
    (λ v f. made_good k verb (a ∷ b ∷ c ∷ []) _ _ d f (λ p i.
    let parts : (read_place k a b ≡ Ok p.0) × (read_integer c ≡ Ok p.1) = and_good _ _ p i in
    let is : FitsPlace k a b p.0.0 p.0.1 = place_good k a b p.0 parts.0 in
    let z : (c ≡ signed_numeral p.1) × (is_i64 p.1 ≡ true) = integer_good c p.1 parts.1 in
    let on : operand_word k.bunches p.0.0 ≡ a = is.place.source.is.word in
    let index : b ≡ numeral p.0.1 = is.place.at in
    record { built = is.place.source.source; named = is.place.source.is.named; words_are = cc (same_word-true verb (codes "add") v, on, index, z.0); fits = both is.fits (both is.below z.1) }))
    (λ _ i. split_if (same_word verb (codes "get")) _ _ (Ok d) i
    (λ v f. made_good k verb (a ∷ b ∷ c ∷ []) _ _ d f (λ p j.
    let parts : (read_register a ≡ Ok p.0) × (read_place k b c ≡ Ok p.1) = and_good _ _ p j in
    let r : (a ≡ register_word p.0) × (nat_lt p.0 16 ≡ true) = register_good a p.0 parts.0 in
    let is : FitsPlace k b c p.1.0 p.1.1 = place_good k b c p.1 parts.1 in
    let on : operand_word k.bunches p.1.0 ≡ b = is.place.source.is.word in
    let index : c ≡ numeral p.1.1 = is.place.at in
    record { built = is.place.source.source; named = is.place.source.is.named; words_are = cc (same_word-true verb (codes "get") v, r.0, on, index); fits = both r.1 (both is.fits is.below) }))
    (λ _ f. cc))))

pub command_good : (k : Knowledge) (verb : List ℕ) (operands : List (List ℕ)) (c : Command) → read_command k verb operands ≡ Ok c → IsCommand k verb operands c
command_good k verb [] d e = cc
command_good k verb (a ∷ []) d e = one_good k verb a d e
command_good k verb (a ∷ b ∷ []) d e = two_good k verb a b d e
command_good k verb (a ∷ b ∷ c ∷ []) d e = three_good k verb a b c d e
command_good k verb (a ∷ b ∷ c ∷ x ∷ more) d e = cc
