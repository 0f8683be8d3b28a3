-- What the reader computes of a line is what the grammar says of it.
use Rattle.std.proofs.Common.{◌≡◌, ℕ, ◌<◌, Bool, true, false, cond, not, ◌&&◌, ◌||◌, nat_lt, List, [], ◌∷◌, length, Option, Some, None, is_none, refl, ap, sym, ◌∙◌, subst, arith, Result, Ok, Err}
use Rattle.std.specs.Prelude.{codes}
use Rattle.std.specs.List.{list_any, slice_split, join_with_byte}
use Rattle.std.proofs.lemmas.List.Splits.{join_with_byte-slice_split}
use Rattle.std.proofs.lemmas.Bool.{and_parts, or_parts, or_from, not-true, not_from_false}
use Rattle.bmx_types.specs.declared.commands.Command.{Command}
use Rattle.bmx_types.specs.declared.commands.Command.TheVariants as command
use Rattle.bmx_numerals.specs.declared.words.Misfit.{Misfit}
use Rattle.bmx_numerals.specs.declared.words.Misfit.TheVariants.{Form, Range}
use Rattle.bmx_numerals.specs.Numerals.{numeral}
use Rattle.bmx_numerals.specs.Words.{read_below, read_within}
use Rattle.bmx_script.specs.declared.knowledge.Knowledge.{Knowledge}
use Rattle.bmx_script.specs.declared.lines.LineKind.{LineKind}
use Rattle.bmx_script.specs.declared.lines.LineKind.TheVariants as line
use Rattle.bmx_script.specs.Spelling.{verb_word, operand_words, command_words, line_words, spelling}
use Rattle.bmx_script.specs.Grammar.{is_within, may_follow, section_of, is_built, is_built_command, is_bunch_word, same_word, named_on, named_in, in_range, fits_command, IsSpelled, HasForm, IsGood}
use Rattle.bmx_script.specs.Inside.Distinct.{AreDistinct}
use Rattle.bmx_script.specs.Inside.Parsing.{is_space, map_read, read_command, node_line, first_limit, declared_bunch, phase_line, setting_line, head_line, line_of, read_line}
use Rattle.bmx_script.proofs.ReadLemmas.{is_form, split_if, if_true, if_false, form_and, form_map, and_form, map_form, good_and, good_map, and_good, map_good, form_below, below_form, below_good, good_below, form_within, within_form, within_good, good_within}
use Rattle.bmx_script.proofs.Words.{same_word-true}
use Rattle.bmx_script.proofs.Plain.{are_words, plain_line}
use Rattle.bmx_script.proofs.Operands.{both, choose_form, if_form, if_good}
use Rattle.bmx_script.proofs.Commands.{form_command, good_command, command_form, command_good, HasCommand, IsCommand}

-- ## what a line that is spelled so comes to

some_operands : (ws : List (List ℕ)) (c : Command) → 0 < length (operand_words ws c)
some_operands ws (command.New r b s) = omega arith
some_operands ws (command.Copy r v) = omega arith
some_operands ws (command.Drop r) = omega arith
some_operands ws (command.Read on) = omega arith
some_operands ws (command.Write on) = omega arith
some_operands ws (command.Done on) = omega arith
some_operands ws (command.Set on i v) = omega arith
some_operands ws (command.Add on i z) = omega arith
some_operands ws (command.Get r on i) = omega arith
some_operands ws (command.Show on i) = omega arith
some_operands ws (command.Same l r) = omega arith

node_words : (k : Knowledge) (node verb : List ℕ) (operands : List (List ℕ)) → 0 < length operands → may_follow k.section 5 ≡ true → line_of k (node ∷ verb ∷ operands) ≡ node_line k node verb operands
node_words k node verb [] some stands = absurd (omega arith)
node_words k node verb (a ∷ operands) some stands = if_true (may_follow k.section 5) (node_line k node verb (a ∷ operands)) (Err Form) (node_line k node verb (a ∷ operands)) stands refl

form_do : (k : Knowledge) (ws : List (List ℕ)) (node : ℕ) (c : Command) → may_follow k.section 5 ≡ true → is_built_command c ≡ true → are_words ws (named_in c) ≡ true → is_form (line_of k (numeral node ∷ command_words ws c)) ≡ false
form_do k ws node c stands built named =
    ap is_form (node_words k (numeral node) (verb_word c) (operand_words ws c) (some_operands ws c) stands)
    ∙ form_map _ _ (form_and _ _ (form_below k.nodes node) (form_command k ws c built named))

good_do : (k : Knowledge) (node : ℕ) (c : Command) → AreDistinct k.bunches → may_follow k.section 5 ≡ true → is_built_command c ≡ true → are_words k.bunches (named_in c) ≡ true
    → (nat_lt node k.nodes && fits_command (length k.bunches) c) ≡ true → line_of k (numeral node ∷ command_words k.bunches c) ≡ Ok (line.Do node c)
good_do k node c distinct stands built named fits =
    let parts : (nat_lt node k.nodes ≡ true) × (fits_command (length k.bunches) c ≡ true) = and_parts (nat_lt node k.nodes) (fits_command (length k.bunches) c) fits in
    node_words k (numeral node) (verb_word c) (operand_words k.bunches c) (some_operands k.bunches c) stands
    ∙ good_map _ _ (node, c) (good_and _ _ node c (good_below k.nodes node parts.0) (good_command k c distinct built named parts.1))

no_form_limit : (o : Option ℕ) → is_form (first_limit o) ≡ false
no_form_limit None = refl
no_form_limit (Some n) = refl

form_declared : (k : Knowledge) (w : List ℕ) → is_form (declared_bunch k w) ≡ false
form_declared k w = either (list_any (same_word w) k.bunches || not (nat_lt (length k.bunches) 16))
  where
    either : (b : Bool) → is_form (cond b (Err Range) (Ok (line.Bunch w None))) ≡ false
    either true = refl
    either false = refl

-- a test that holds
is_form_if : (b : Bool) (f g : Result LineKind Misfit) → b ≡ true → is_form f ≡ false → is_form (cond b f g) ≡ false
is_form_if b f g h e = ap is_form (if_true b f g f h refl) ∙ e

is_good_if : (b : Bool) (f g : Result LineKind Misfit) (x : LineKind) → b ≡ true → f ≡ Ok x → cond b f g ≡ Ok x
is_good_if b f g x h e = if_true b f g (Ok x) h e

form_line : (k : Knowledge) (ws : List (List ℕ)) (what : LineKind) → may_follow k.section (section_of what) ≡ true → is_built what ≡ true → are_words ws (named_on what) ≡ true → is_form (line_of k (line_words ws what)) ≡ false
form_line k ws line.Version stands built named = is_form_if (may_follow k.section 1) _ _ stands refl
form_line k ws (line.Nodes count) stands built named = is_form_if (may_follow k.section 2) _ _ stands (form_map _ _ (form_within 1 8 count))
form_line k ws (line.Bunch w None) stands built named = is_form_if (may_follow k.section 3 && is_bunch_word w) _ _ (both stands built) (form_declared k w)
form_line k ws (line.Bunch w (Some f)) stands built named = cc
form_line k ws (line.Segments l) stands built named = is_form_if (may_follow k.section 4) _ _ stands (form_map _ _ (form_and _ _ (form_within 1 65535 l) (no_form_limit k.limit)))
form_line k ws (line.Table f t n fate) stands built named = cc
form_line k ws (line.TablesLose e) stands built named = cc
form_line k ws (line.Save b f) stands built named = cc
form_line k ws line.Phase stands built named = is_form_if (may_follow k.section 5) _ _ stands refl
form_line k ws line.Quiet stands built named = is_form_if (may_follow k.section 5) _ _ stands refl
form_line k ws (line.Do node c) stands built named = form_do k ws node c stands built named
form_line k ws (line.Collect n b) stands built named = cc
form_line k ws (line.Sweep n) stands built named = cc
form_line k ws line.Settle stands built named = cc

good_limit : (o : Option ℕ) → is_none o ≡ true → first_limit o ≡ Ok tt
good_limit None h = refl
good_limit (Some n) h = cc

not_true : (b : Bool) → b ≡ true → not b ≡ false
not_true true h = refl
not_true false h = cc

good_line : (k : Knowledge) (what : LineKind) → AreDistinct k.bunches → may_follow k.section (section_of what) ≡ true → is_built what ≡ true → are_words k.bunches (named_on what) ≡ true
    → in_range k what ≡ true → line_of k (line_words k.bunches what) ≡ Ok what
good_line k line.Version distinct stands built named range = is_good_if (may_follow k.section 1) _ _ _ stands refl
good_line k (line.Nodes count) distinct stands built named range = is_good_if (may_follow k.section 2) _ _ _ stands (good_map _ _ count (good_within 1 8 count range))
good_line k (line.Bunch w None) distinct stands built named range =
    let parts : (not (list_any (same_word w) k.bunches) ≡ true) × (nat_lt (length k.bunches) 16 ≡ true) = and_parts (not (list_any (same_word w) k.bunches)) (nat_lt (length k.bunches) 16) range in
    let free : (list_any (same_word w) k.bunches || not (nat_lt (length k.bunches) 16)) ≡ false =
    or_from (list_any (same_word w) k.bunches) (not (nat_lt (length k.bunches) 16)) (not-true (list_any (same_word w) k.bunches) parts.0) (not_true (nat_lt (length k.bunches) 16) parts.1) in
    is_good_if (may_follow k.section 3 && is_bunch_word w) _ _ _ (both stands built)
    (if_false (list_any (same_word w) k.bunches || not (nat_lt (length k.bunches) 16)) (Err Range) (Ok (line.Bunch w None)) (Ok (line.Bunch w None)) free refl)
good_line k (line.Bunch w (Some f)) distinct stands built named range = cc
good_line k (line.Segments l) distinct stands built named range =
    let parts : (is_within 1 65535 l ≡ true) × (is_none k.limit ≡ true) = and_parts (is_within 1 65535 l) (is_none k.limit) range in
    is_good_if (may_follow k.section 4) _ _ _ stands (good_map _ _ (l, tt) (good_and _ _ l tt (good_within 1 65535 l parts.0) (good_limit k.limit parts.1)))
good_line k (line.Table f t n fate) distinct stands built named range = cc
good_line k (line.TablesLose e) distinct stands built named range = cc
good_line k (line.Save b f) distinct stands built named range = cc
good_line k line.Phase distinct stands built named range = is_good_if (may_follow k.section 5) _ _ _ stands refl
good_line k line.Quiet distinct stands built named range = is_good_if (may_follow k.section 5) _ _ _ stands refl
good_line k (line.Do node c) distinct stands built named range = good_do k node c distinct stands built named range
good_line k (line.Collect n b) distinct stands built named range = cc
good_line k (line.Sweep n) distinct stands built named range = cc
good_line k line.Settle distinct stands built named range = cc

-- ## words with the form of a line

-- words that some line has that may stand here, and which bunch words it goes by
record HasWords (k : Knowledge) (words : List (List ℕ)) : Type 0 where
  bunches : List (List ℕ)
  what : LineKind
  stands : may_follow k.section (section_of what) ≡ true
  built : is_built what ≡ true
  named : are_words bunches (named_on what) ≡ true
  words_are : line_words bunches what ≡ words

node_form : (k : Knowledge) (node verb : List ℕ) (operands : List (List ℕ)) → may_follow k.section 5 ≡ true → is_form (node_line k node verb operands) ≡ false → HasWords k (node ∷ verb ∷ operands)
node_form k node verb operands stands e =
    let parts : (is_form (read_below k.nodes node) ≡ false) × (is_form (read_command k verb operands) ≡ false) = and_form _ _ (map_form _ _ e) in
    let n : (n : ℕ) × (node ≡ numeral n) = below_form k.nodes node parts.0 in
    let c : HasCommand verb operands = command_form k verb operands parts.1 in
    let words : command_words c.bunches c.command ≡ verb ∷ operands = c.words_are in
    record { bunches = c.bunches; what = line.Do n.0 c.command; stands = stands; built = c.built; named = c.named; words_are = cc (n.1, words) }

setting_form : (k : Knowledge) (key word : List ℕ) → is_form (setting_line k key word) ≡ false → HasWords k (key ∷ word ∷ [])
setting_form k key word e = choose_form (same_word key (codes "bmx") && may_follow k.section 1) _ _ e
    (λ h f.
    let parts : (same_word key (codes "bmx") ≡ true) × (may_follow k.section 1 ≡ true) = and_parts (same_word key (codes "bmx")) (may_follow k.section 1) h in
    let one : (same_word word (codes "1") ≡ true) × _ = if_form _ _ f in
    record { bunches = []; what = line.Version; stands = parts.1; built = refl; named = refl; words_are = cc (same_word-true key (codes "bmx") parts.0, same_word-true word (codes "1") one.0) })
    (λ _ g. choose_form (same_word key (codes "nodes") && may_follow k.section 2) _ _ g
    (λ h f.
    let parts : (same_word key (codes "nodes") ≡ true) × (may_follow k.section 2 ≡ true) = and_parts (same_word key (codes "nodes")) (may_follow k.section 2) h in
    let n : (n : ℕ) × (word ≡ numeral n) = within_form 1 8 word (map_form _ _ f) in
    record { bunches = []; what = line.Nodes n.0; stands = parts.1; built = refl; named = refl; words_are = cc (same_word-true key (codes "nodes") parts.0, n.1) })
    (λ _ i. choose_form (same_word key (codes "segments") && may_follow k.section 4) _ _ i
    (λ h f.
    let parts : (same_word key (codes "segments") ≡ true) × (may_follow k.section 4 ≡ true) = and_parts (same_word key (codes "segments")) (may_follow k.section 4) h in
    let fields : (is_form (read_within 1 65535 word) ≡ false) × (is_form (first_limit k.limit) ≡ false) = and_form _ _ (map_form _ _ f) in
    let n : (n : ℕ) × (word ≡ numeral n) = within_form 1 65535 word fields.0 in
    record { bunches = []; what = line.Segments n.0; stands = parts.1; built = refl; named = refl; words_are = cc (same_word-true key (codes "segments") parts.0, n.1) })
    (λ _ f. cc)))

-- a key and a word in the form of a bunch line
bunch_parts : (k : Knowledge) (key word : List ℕ) → (same_word key (codes "bunch") && may_follow k.section 3 && is_bunch_word word) ≡ true → (key ≡ codes "bunch") × (may_follow k.section 3 ≡ true) × (is_bunch_word word ≡ true)
bunch_parts k key word h =
    let parts : ((same_word key (codes "bunch") && may_follow k.section 3) ≡ true) × (is_bunch_word word ≡ true) = and_parts (same_word key (codes "bunch") && may_follow k.section 3) (is_bunch_word word) h in
    let first : (same_word key (codes "bunch") ≡ true) × (may_follow k.section 3 ≡ true) = and_parts (same_word key (codes "bunch")) (may_follow k.section 3) parts.0 in
    (same_word-true key (codes "bunch") first.0, first.1, parts.1)

head_form : (k : Knowledge) (key word : List ℕ) → is_form (head_line k key word) ≡ false → HasWords k (key ∷ word ∷ [])
head_form k key word e = choose_form (same_word key (codes "bunch") && may_follow k.section 3 && is_bunch_word word) _ _ e
    (λ h f.
    let parts : (key ≡ codes "bunch") × (may_follow k.section 3 ≡ true) × (is_bunch_word word ≡ true) = bunch_parts k key word h in
    record { bunches = []; what = line.Bunch word None; stands = parts.1; built = parts.2; named = refl; words_are = cc (parts.0) })
    (λ _ g. setting_form k key word g)

phase_form : (k : Knowledge) (word : List ℕ) → is_form (phase_line k word) ≡ false → HasWords k (word ∷ [])
phase_form k word e = choose_form (same_word word (codes "phase") && may_follow k.section 5) _ _ e
    (λ h f.
    let parts : (same_word word (codes "phase") ≡ true) × (may_follow k.section 5 ≡ true) = and_parts (same_word word (codes "phase")) (may_follow k.section 5) h in
    record { bunches = []; what = line.Phase; stands = parts.1; built = refl; named = refl; words_are = cc (same_word-true word (codes "phase") parts.0) })
    (λ _ g. choose_form (same_word word (codes "quiet") && may_follow k.section 5) _ _ g
    (λ h f.
    let parts : (same_word word (codes "quiet") ≡ true) × (may_follow k.section 5 ≡ true) = and_parts (same_word word (codes "quiet")) (may_follow k.section 5) h in
    record { bunches = []; what = line.Quiet; stands = parts.1; built = refl; named = refl; words_are = cc (same_word-true word (codes "quiet") parts.0) })
    (λ _ f. cc))

words_form : (k : Knowledge) (words : List (List ℕ)) → is_form (line_of k words) ≡ false → HasWords k words
words_form k [] e = cc
words_form k (a ∷ []) e = phase_form k a e
words_form k (a ∷ b ∷ []) e = head_form k a b e
words_form k (a ∷ b ∷ c ∷ words) e =
    let parts : (may_follow k.section 5 ≡ true) × (is_form (node_line k a b (c ∷ words)) ≡ false) = if_form _ _ e in
    node_form k a b (c ∷ words) parts.0 parts.1

-- ## what is known of a line that is read

record IsLine (k : Knowledge) (words : List (List ℕ)) (what : LineKind) : Type 0 where
  stands : may_follow k.section (section_of what) ≡ true
  built : is_built what ≡ true
  named : are_words k.bunches (named_on what) ≡ true
  words_are : line_words k.bunches what ≡ words
  range : in_range k what ≡ true

-- a line that was made of a field
made_line : {A : Type 0} (k : Knowledge) (words : List (List ℕ)) (make : A → LineKind) (f : Result A Misfit) (what : LineKind) → map_read make f ≡ Ok what
    → ((x : A) → f ≡ Ok x → IsLine k words (make x)) → IsLine k words what
made_line {A} k words make f what e then =
    let found : (x : A) × (f ≡ Ok x) × (make x ≡ what) = map_good make f what e in
    subst (λ (l : LineKind). IsLine k words l) found.2 (then found.0 found.1)

node_good : (k : Knowledge) (node verb : List ℕ) (operands : List (List ℕ)) (what : LineKind) → may_follow k.section 5 ≡ true → node_line k node verb operands ≡ Ok what → IsLine k (node ∷ verb ∷ operands) what
node_good k node verb operands what stands e = made_line k (node ∷ verb ∷ operands) _ _ what e (λ p f.
    let parts : (read_below k.nodes node ≡ Ok p.0) × (read_command k verb operands ≡ Ok p.1) = and_good _ _ p f in
    let n : (node ≡ numeral p.0) × (nat_lt p.0 k.nodes ≡ true) = below_good k.nodes node p.0 parts.0 in
    let c : IsCommand k verb operands p.1 = command_good k verb operands p.1 parts.1 in
    let words : command_words k.bunches p.1 ≡ verb ∷ operands = c.words_are in
    record { stands = stands; built = c.built; named = c.named; words_are = cc (n.0, words); range = both n.1 c.fits })

limit_good : (o : Option ℕ) (u : Unit {0}) → first_limit o ≡ Ok u → is_none o ≡ true
limit_good None u e = refl
limit_good (Some n) u e = cc

setting_good : (k : Knowledge) (key word : List ℕ) (what : LineKind) → setting_line k key word ≡ Ok what → IsLine k (key ∷ word ∷ []) what
setting_good k key word what e = split_if (same_word key (codes "bmx") && may_follow k.section 1) _ _ (Ok what) e
    (λ h f.
    let parts : (same_word key (codes "bmx") ≡ true) × (may_follow k.section 1 ≡ true) = and_parts (same_word key (codes "bmx")) (may_follow k.section 1) h in
    let one : (same_word word (codes "1") ≡ true) × (Ok line.Version ≡ Ok what) = if_good _ _ what f in
    let is : line.Version ≡ what = cc (one.1) in
    subst (λ (l : LineKind). IsLine k (key ∷ word ∷ []) l) is
    (record { stands = parts.1; built = refl; named = refl; words_are = cc (same_word-true key (codes "bmx") parts.0, same_word-true word (codes "1") one.0); range = refl }))
    (λ _ g. split_if (same_word key (codes "nodes") && may_follow k.section 2) _ _ (Ok what) g
    (λ h f.
    let parts : (same_word key (codes "nodes") ≡ true) × (may_follow k.section 2 ≡ true) = and_parts (same_word key (codes "nodes")) (may_follow k.section 2) h in
    made_line k (key ∷ word ∷ []) _ _ what f (λ n j.
    let is : (word ≡ numeral n) × (is_within 1 8 n ≡ true) = within_good 1 8 word n j in
    record { stands = parts.1; built = refl; named = refl; words_are = cc (same_word-true key (codes "nodes") parts.0, is.0); range = is.1 }))
    (λ _ i. split_if (same_word key (codes "segments") && may_follow k.section 4) _ _ (Ok what) i
    (λ h f.
    let parts : (same_word key (codes "segments") ≡ true) × (may_follow k.section 4 ≡ true) = and_parts (same_word key (codes "segments")) (may_follow k.section 4) h in
    made_line k (key ∷ word ∷ []) _ _ what f (λ p j.
    let fields : (read_within 1 65535 word ≡ Ok p.0) × (first_limit k.limit ≡ Ok p.1) = and_good _ _ p j in
    let is : (word ≡ numeral p.0) × (is_within 1 65535 p.0 ≡ true) = within_good 1 65535 word p.0 fields.0 in
    record { stands = parts.1; built = refl; named = refl; words_are = cc (same_word-true key (codes "segments") parts.0, is.0); range = both is.1 (limit_good k.limit p.1 fields.1) }))
    (λ _ f. cc)))

true_from_not_false : (b : Bool) → not b ≡ false → b ≡ true
true_from_not_false true h = refl
true_from_not_false false h = cc

head_good : (k : Knowledge) (key word : List ℕ) (what : LineKind) → head_line k key word ≡ Ok what → IsLine k (key ∷ word ∷ []) what
head_good k key word what e = split_if (same_word key (codes "bunch") && may_follow k.section 3 && is_bunch_word word) _ _ (Ok what) e
    (λ h f.
    let parts : (key ≡ codes "bunch") × (may_follow k.section 3 ≡ true) × (is_bunch_word word ≡ true) = bunch_parts k key word h in
    split_if (list_any (same_word word) k.bunches || not (nat_lt (length k.bunches) 16)) (Err Range) (Ok (line.Bunch word None)) (Ok what) f
    (λ _ q. cc)
    (λ t q.
    let free : (list_any (same_word word) k.bunches ≡ false) × (not (nat_lt (length k.bunches) 16) ≡ false) = or_parts _ _ t in
    let is : line.Bunch word None ≡ what = cc (q) in
    subst (λ (l : LineKind). IsLine k (key ∷ word ∷ []) l) is
    (record {
      stands = parts.1;
      built = parts.2;
      named = refl;
      words_are = cc (parts.0);
      range = both (not_from_false (list_any (same_word word) k.bunches) free.0) (true_from_not_false (nat_lt (length k.bunches) 16) free.1);
    })))
    (λ _ g. setting_good k key word what g)

phase_good : (k : Knowledge) (word : List ℕ) (what : LineKind) → phase_line k word ≡ Ok what → IsLine k (word ∷ []) what
phase_good k word what e = split_if (same_word word (codes "phase") && may_follow k.section 5) _ _ (Ok what) e
    (λ h f.
    let parts : (same_word word (codes "phase") ≡ true) × (may_follow k.section 5 ≡ true) = and_parts (same_word word (codes "phase")) (may_follow k.section 5) h in
    let is : line.Phase ≡ what = cc (f) in
    subst (λ (l : LineKind). IsLine k (word ∷ []) l) is
    (record { stands = parts.1; built = refl; named = refl; words_are = cc (same_word-true word (codes "phase") parts.0); range = refl }))
    (λ _ g. split_if (same_word word (codes "quiet") && may_follow k.section 5) _ _ (Ok what) g
    (λ h f.
    let parts : (same_word word (codes "quiet") ≡ true) × (may_follow k.section 5 ≡ true) = and_parts (same_word word (codes "quiet")) (may_follow k.section 5) h in
    let is : line.Quiet ≡ what = cc (f) in
    subst (λ (l : LineKind). IsLine k (word ∷ []) l) is
    (record { stands = parts.1; built = refl; named = refl; words_are = cc (same_word-true word (codes "quiet") parts.0); range = refl }))
    (λ _ f. cc))

words_good : (k : Knowledge) (words : List (List ℕ)) (what : LineKind) → line_of k words ≡ Ok what → IsLine k words what
words_good k [] what e = cc
words_good k (a ∷ []) what e = phase_good k a what e
words_good k (a ∷ b ∷ []) what e = head_good k a b what e
words_good k (a ∷ b ∷ c ∷ words) what e =
    let parts : (may_follow k.section 5 ≡ true) × (node_line k a b (c ∷ words) ≡ Ok what) = if_good _ _ what e in
    node_good k a b (c ∷ words) what parts.0 parts.1

-- ## the answer for a line

-- what the grammar says of a text, by the field that was read from it
abbrev pub Tells : Knowledge → List ℕ → Result LineKind Misfit → Type 0
Tells k text (Err Form) = ¬ HasForm k text
Tells k text (Err Range) = HasForm k text × ((what : LineKind) → ¬ IsGood k what text)
Tells k text (Ok what) = IsGood k what text

its_words : (k : Knowledge) (ws : List (List ℕ)) (what : LineKind) (text : List ℕ) → IsSpelled k ws what text → slice_split is_space text ≡ line_words ws what
its_words k ws what text s = ap (slice_split is_space) (sym s.spelled) ∙ plain_line ws what s.built s.words

spelled_is_read : (k : Knowledge) (ws : List (List ℕ)) (what : LineKind) (text : List ℕ) → IsSpelled k ws what text → is_form (read_line k text) ≡ false
spelled_is_read k ws what text s = ap (λ x. is_form (line_of k x)) (its_words k ws what text s) ∙ form_line k ws what s.stands s.built s.words

pub good_is_read : (k : Knowledge) (what : LineKind) (text : List ℕ) → AreDistinct k.bunches → IsGood k what text → read_line k text ≡ Ok what
good_is_read k what text distinct g =
    ap (λ x. line_of k x) (its_words k k.bunches what text g.form) ∙ good_line k what distinct g.form.stands g.form.built g.form.words g.range

joined : (k : Knowledge) (ws : List (List ℕ)) (what : LineKind) (text : List ℕ) → line_words ws what ≡ slice_split is_space text → spelling ws what ≡ text
joined k ws what text e = ap (join_with_byte 32) e ∙ join_with_byte-slice_split 32 text

read_has_form : (k : Knowledge) (text : List ℕ) → is_form (read_line k text) ≡ false → HasForm k text
read_has_form k text e =
    let found : HasWords k (slice_split is_space text) = words_form k (slice_split is_space text) e in
    (found.bunches, found.what, record { stands = found.stands; built = found.built; words = found.named; spelled = joined k found.bunches found.what text found.words_are })

read_is_good : (k : Knowledge) (text : List ℕ) (what : LineKind) → read_line k text ≡ Ok what → IsGood k what text
read_is_good k text what e =
    let found : IsLine k (slice_split is_space text) what = words_good k (slice_split is_space text) what e in
    record {
      form = record { stands = found.stands; built = found.built; words = found.named; spelled = joined k k.bunches what text found.words_are };
      range = found.range;
    }

tells_by : (k : Knowledge) (text : List ℕ) (f : Result LineKind Misfit) → AreDistinct k.bunches → read_line k text ≡ f → Tells k text f
tells_by k text (Err Form) distinct e = λ h. let bad : is_form (read_line k text) ≡ false = spelled_is_read k h.0 h.1 text h.2 in let form : true ≡ false = sym (ap is_form e) ∙ bad in cc
tells_by k text (Err Range) distinct e = (read_has_form k text (ap is_form e), λ what g. let good : (Err Range) ≡ Ok what = sym e ∙ good_is_read k what text distinct g in cc)
tells_by k text (Ok what) distinct e = read_is_good k text what e

-- what is read of a line is what the grammar says of it
pub exact : (k : Knowledge) (text : List ℕ) → AreDistinct k.bunches → Tells k text (read_line k text)
exact k text distinct = tells_by k text (read_line k text) distinct refl
