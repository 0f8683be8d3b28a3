-- The bytes of a line lie above the space: no word of it has a space or a line feed.
use Rattle.std.proofs.Common.{◌≡◌, ℕ, ◌+◌, ◌<◌, ◌≤◌, ◌==◌, ℤ, pos, negsuc, Bool, true, false, not, ◌&&◌, nat_lt, nat_le, List, [], ◌∷◌, ◌++◌, length, Some, None, refl, ap, sym, ◌∙◌, arith}
use Rattle.std.specs.Prelude.{codes}
use Rattle.std.specs.List.{list_all, slice_split, join_with_byte}
use Rattle.std.proofs.lemmas.Bool.{and_parts, and_from, lt-ltb, ltb-true, ne_eqb, not_from_false}
use Rattle.std.proofs.lemmas.List.Folds.{list_all-append}
use Rattle.bmx_types.specs.declared.commands.Operand.{Operand}
use Rattle.bmx_types.specs.declared.commands.Operand.TheVariants as operand
use Rattle.bmx_types.specs.declared.commands.Command.{Command}
use Rattle.bmx_types.specs.declared.commands.Command.TheVariants as command
use Rattle.bmx_numerals.specs.Numerals.{numeral, signed_numeral, is_digit}
use Rattle.bmx_numerals.proofs.NumeralLemmas.{is_digit_range, numeral_digits, numeral_first}
use Rattle.bmx_script.specs.declared.lines.LineKind.{LineKind}
use Rattle.bmx_script.specs.declared.lines.LineKind.TheVariants as line
use Rattle.bmx_script.specs.Spelling.{word_of, register_word, operand_word, verb_word, operand_words, command_words, line_words, spelling}
use Rattle.bmx_script.specs.Grammar.{is_word_byte, is_bunch_word, begins_with_letter, is_comment, is_built, named_by, named_in, named_on}
use Rattle.bmx_script.specs.Inside.Parsing.{is_space}
use Rattle.bmx_script.proofs.Words.{has_no_space, split-join}

-- what passes one test passes another
pub list_all_then : {X : Type 0} (p q : X → Bool) → ((x : X) → p x ≡ true → q x ≡ true) → (xs : List X) → list_all p xs ≡ true → list_all q xs ≡ true
list_all_then p q then [] h = refl
list_all_then p q then (x ∷ xs) h =
    let parts : (p x ≡ true) × (list_all p xs ≡ true) = and_parts (p x) (list_all p xs) h in
    and_from (q x) (list_all q xs) (then x parts.0) (list_all_then p q then xs parts.1)

-- bytes above the space
abbrev pub is_plain : List ℕ → Bool
is_plain w = list_all (λ c. nat_lt 32 c) w

abbrev pub has_no_feed : List ℕ → Bool
has_no_feed w = list_all (λ c. not (c == 10)) w

digit_plain : (c : ℕ) → is_digit c ≡ true → nat_lt 32 c ≡ true
digit_plain c h = let range : (48 ≤ c) × (c ≤ 57) = is_digit_range c h in lt-ltb 32 c (omega arith)

pub numeral_plain : (n : ℕ) → is_plain (numeral n) ≡ true
numeral_plain n = list_all_then is_digit (λ c. nat_lt 32 c) digit_plain (numeral n) (numeral_digits n)

pub signed_numeral_plain : (z : ℤ) → is_plain (signed_numeral z) ≡ true
signed_numeral_plain (pos n) = numeral_plain n
signed_numeral_plain (negsuc n) = and_from (nat_lt 32 45) (is_plain (numeral (n + 1))) refl (numeral_plain (n + 1))

word_byte_above : (c : ℕ) → is_word_byte c ≡ true → 32 < c
word_byte_above c h = grind (arith, h)

pub bunch_word_plain : (w : List ℕ) → is_bunch_word w ≡ true → is_plain w ≡ true
bunch_word_plain w h =
    let parts : (begins_with_letter w ≡ true) × ((list_all is_word_byte w && nat_le (length w) 16) ≡ true) = and_parts (begins_with_letter w) (list_all is_word_byte w && nat_le (length w) 16) h in
    list_all_then is_word_byte (λ c. nat_lt 32 c) (λ c b. lt-ltb 32 c (word_byte_above c b)) w (and_parts (list_all is_word_byte w) (nat_le (length w) 16) parts.1).0

-- the words of the bunches that are named are bunch words
abbrev pub are_words : List (List ℕ) → List ℕ → Bool
are_words ws bs = list_all (λ b. is_bunch_word (word_of ws b)) bs

pub the_word : (ws : List (List ℕ)) (b : ℕ) → are_words ws (b ∷ []) ≡ true → is_bunch_word (word_of ws b) ≡ true
the_word ws b h = (and_parts (is_bunch_word (word_of ws b)) true h).0

pub both_words : (ws : List (List ℕ)) (bs cs : List ℕ) → are_words ws (bs ++ cs) ≡ true → (are_words ws bs ≡ true) × (are_words ws cs ≡ true)
both_words ws bs cs h = and_parts (are_words ws bs) (are_words ws cs) (sym (list_all-append (λ b. is_bunch_word (word_of ws b)) bs cs) ∙ h)

named_plain : (ws : List (List ℕ)) (b : ℕ) → are_words ws (b ∷ []) ≡ true → is_plain (word_of ws b) ≡ true
named_plain ws b h = bunch_word_plain (word_of ws b) (the_word ws b h)

pub register_plain : (r : ℕ) → is_plain (register_word r) ≡ true
register_plain r = and_from (nat_lt 32 114) (is_plain (numeral r)) refl (numeral_plain r)

pub operand_plain : (ws : List (List ℕ)) (o : Operand) → are_words ws (named_by o) ≡ true → is_plain (operand_word ws o) ≡ true
operand_plain ws (operand.Register r) h = register_plain r
operand_plain ws (operand.Anchor b) h = and_from (nat_lt 32 64) (is_plain (word_of ws b)) refl (named_plain ws b h)
operand_plain ws (operand.Int z) h = signed_numeral_plain z
operand_plain ws operand.Null h = refl

-- one, two and three words behind a verb
plain_one : (a : List ℕ) → is_plain a ≡ true → list_all is_plain (a ∷ []) ≡ true
plain_one a p = and_from (is_plain a) true p refl

plain_two : (a b : List ℕ) → is_plain a ≡ true → is_plain b ≡ true → list_all is_plain (a ∷ b ∷ []) ≡ true
plain_two a b p q = and_from (is_plain a) (list_all is_plain (b ∷ [])) p (plain_one b q)

plain_three : (a b c : List ℕ) → is_plain a ≡ true → is_plain b ≡ true → is_plain c ≡ true → list_all is_plain (a ∷ b ∷ c ∷ []) ≡ true
plain_three a b c p q r = and_from (is_plain a) (list_all is_plain (b ∷ c ∷ [])) p (plain_two b c q r)

operands_plain : (ws : List (List ℕ)) (c : Command) → are_words ws (named_in c) ≡ true → list_all is_plain (operand_words ws c) ≡ true
operands_plain ws (command.New r b s) h = plain_three (register_word r) (word_of ws b) (numeral s) (register_plain r) (named_plain ws b h) (numeral_plain s)
operands_plain ws (command.Copy r v) h = plain_two (register_word r) (operand_word ws v) (register_plain r) (operand_plain ws v h)
operands_plain ws (command.Drop r) h = plain_one (register_word r) (register_plain r)
operands_plain ws (command.Read on) h = plain_one (operand_word ws on) (operand_plain ws on h)
operands_plain ws (command.Write on) h = plain_one (operand_word ws on) (operand_plain ws on h)
operands_plain ws (command.Done on) h = plain_one (operand_word ws on) (operand_plain ws on h)
operands_plain ws (command.Set on i v) h =
    let both : (are_words ws (named_by on) ≡ true) × (are_words ws (named_by v) ≡ true) = both_words ws (named_by on) (named_by v) h in
    plain_three (operand_word ws on) (numeral i) (operand_word ws v) (operand_plain ws on both.0) (numeral_plain i) (operand_plain ws v both.1)
operands_plain ws (command.Add on i z) h = plain_three (operand_word ws on) (numeral i) (signed_numeral z) (operand_plain ws on h) (numeral_plain i) (signed_numeral_plain z)
operands_plain ws (command.Get r on i) h = plain_three (register_word r) (operand_word ws on) (numeral i) (register_plain r) (operand_plain ws on h) (numeral_plain i)
operands_plain ws (command.Show on i) h = plain_two (operand_word ws on) (numeral i) (operand_plain ws on h) (numeral_plain i)
operands_plain ws (command.Same l r) h =
    let both : (are_words ws (named_by l) ≡ true) × (are_words ws (named_by r) ≡ true) = both_words ws (named_by l) (named_by r) h in
    plain_two (operand_word ws l) (operand_word ws r) (operand_plain ws l both.0) (operand_plain ws r both.1)

verb_plain : (c : Command) → is_plain (verb_word c) ≡ true
verb_plain (command.New r b s) = refl
verb_plain (command.Copy r v) = refl
verb_plain (command.Drop r) = refl
verb_plain (command.Read on) = refl
verb_plain (command.Write on) = refl
verb_plain (command.Done on) = refl
verb_plain (command.Set on i v) = refl
verb_plain (command.Add on i z) = refl
verb_plain (command.Get r on i) = refl
verb_plain (command.Show on i) = refl
verb_plain (command.Same l r) = refl

command_plain : (ws : List (List ℕ)) (c : Command) → are_words ws (named_in c) ≡ true → list_all is_plain (command_words ws c) ≡ true
command_plain ws c h = and_from (is_plain (verb_word c)) (list_all is_plain (operand_words ws c)) (verb_plain c) (operands_plain ws c h)

pub line_plain : (ws : List (List ℕ)) (what : LineKind) → is_built what ≡ true → are_words ws (named_on what) ≡ true → list_all is_plain (line_words ws what) ≡ true
line_plain ws line.Version built named = refl
line_plain ws (line.Nodes count) built named = plain_one (numeral count) (numeral_plain count)
line_plain ws (line.Bunch w None) built named = plain_one w (bunch_word_plain w built)
line_plain ws (line.Bunch w (Some f)) built named = cc
line_plain ws (line.Segments l) built named = plain_one (numeral l) (numeral_plain l)
line_plain ws (line.Table f t n fate) built named = cc
line_plain ws (line.TablesLose e) built named = cc
line_plain ws (line.Save b f) built named = cc
line_plain ws line.Phase built named = refl
line_plain ws line.Quiet built named = refl
line_plain ws (line.Do node c) built named = and_from (is_plain (numeral node)) (list_all is_plain (command_words ws c)) (numeral_plain node) (command_plain ws c named)
line_plain ws (line.Collect node b) built named = plain_three (numeral node) (codes "collect") (word_of ws b) (numeral_plain node) refl (named_plain ws b named)
line_plain ws (line.Sweep node) built named = plain_two (numeral node) (codes "sweep") (numeral_plain node) refl
line_plain ws line.Settle built named = refl

-- ## no space in a word

pub no_space : (w : List ℕ) → is_plain w ≡ true → has_no_space w ≡ true
no_space w h = list_all_then (λ c. nat_lt 32 c) (λ c. not (c == 32)) (λ c p. not_from_false (c == 32) (ne_eqb c 32 (λ e. absurd (omega (arith, ltb-true 32 c p, e))))) w h

split_plain : (ws : List (List ℕ)) → 0 < length ws → list_all is_plain ws ≡ true → slice_split is_space (join_with_byte 32 ws) ≡ ws
split_plain [] some h = absurd (omega arith)
split_plain (w ∷ ws) some h = split-join w ws (list_all_then is_plain has_no_space no_space (w ∷ ws) h)

some_words : (ws : List (List ℕ)) (what : LineKind) → 0 < length (line_words ws what)
some_words ws line.Version = omega arith
some_words ws (line.Nodes count) = omega arith
some_words ws (line.Bunch w file) = omega arith
some_words ws (line.Segments l) = omega arith
some_words ws (line.Table f t n fate) = omega arith
some_words ws (line.TablesLose e) = omega arith
some_words ws (line.Save b f) = omega arith
some_words ws line.Phase = omega arith
some_words ws line.Quiet = omega arith
some_words ws (line.Do node c) = omega arith
some_words ws (line.Collect node b) = omega arith
some_words ws (line.Sweep node) = omega arith
some_words ws line.Settle = omega arith

-- between the spaces of a line's spelling lie its words
pub plain_line : (ws : List (List ℕ)) (what : LineKind) → is_built what ≡ true → are_words ws (named_on what) ≡ true → slice_split is_space (spelling ws what) ≡ line_words ws what
plain_line ws what built named = split_plain (line_words ws what) (some_words ws what) (line_plain ws what built named)

-- ## no line feed in a line, and no line is a comment

no_feed : (w : List ℕ) → is_plain w ≡ true → has_no_feed w ≡ true
no_feed w h = list_all_then (λ c. nat_lt 32 c) (λ c. not (c == 10)) (λ c p. not_from_false (c == 10) (ne_eqb c 10 (λ e. absurd (omega (arith, ltb-true 32 c p, e))))) w h

joined_no_feed : (ws : List (List ℕ)) → list_all is_plain ws ≡ true → has_no_feed (join_with_byte 32 ws) ≡ true
joined_no_feed [] h = refl
joined_no_feed (w ∷ []) h = no_feed w (and_parts (is_plain w) true h).0
joined_no_feed (w ∷ v ∷ vs) h =
    let parts : (is_plain w ≡ true) × (list_all is_plain (v ∷ vs) ≡ true) = and_parts (is_plain w) (list_all is_plain (v ∷ vs)) h in
    rw (list_all-append (λ c. not (c == 10)) w (32 ∷ join_with_byte 32 (v ∷ vs)))
    (and_from (has_no_feed w) (has_no_feed (32 ∷ join_with_byte 32 (v ∷ vs))) (no_feed w parts.0) (joined_no_feed (v ∷ vs) parts.1))

pub line_no_feed : (ws : List (List ℕ)) (what : LineKind) → is_built what ≡ true → are_words ws (named_on what) ≡ true → has_no_feed (spelling ws what) ≡ true
line_no_feed ws what built named = joined_no_feed (line_words ws what) (line_plain ws what built named)

first_of_word : (w : List ℕ) (ws : List (List ℕ)) → is_comment w ≡ false → is_comment (join_with_byte 32 (w ∷ ws)) ≡ false
first_of_word [] ws h = cc
first_of_word (c ∷ w) [] h = h
first_of_word (c ∷ w) (v ∷ vs) h = h

numeral_no_comment : (n : ℕ) → is_comment (numeral n) ≡ false
numeral_no_comment n =
    let first : (c : ℕ) × (cs : List ℕ) × (numeral n ≡ c ∷ cs) × (is_digit c ≡ true) = numeral_first n in
    let range : (48 ≤ first.0) × (first.0 ≤ 57) = is_digit_range first.0 first.3 in
    ap is_comment first.2 ∙ ne_eqb first.0 35 (λ e. absurd (omega arith))

pub line_no_comment : (ws : List (List ℕ)) (what : LineKind) → is_comment (spelling ws what) ≡ false
line_no_comment ws line.Version = refl
line_no_comment ws (line.Nodes count) = refl
line_no_comment ws (line.Bunch w file) = refl
line_no_comment ws (line.Segments l) = refl
line_no_comment ws (line.Table f t n fate) = refl
line_no_comment ws (line.TablesLose e) = refl
line_no_comment ws (line.Save b f) = refl
line_no_comment ws line.Phase = refl
line_no_comment ws line.Quiet = refl
line_no_comment ws (line.Do node c) = first_of_word (numeral node) (command_words ws c) (numeral_no_comment node)
line_no_comment ws (line.Collect node b) = first_of_word (numeral node) (codes "collect" ∷ word_of ws b ∷ []) (numeral_no_comment node)
line_no_comment ws (line.Sweep node) = first_of_word (numeral node) (codes "sweep" ∷ []) (numeral_no_comment node)
line_no_comment ws line.Settle = refl
