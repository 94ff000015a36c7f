-- Lines in parts.
use Rattle.std.proofs.Common.{rules, arith, ◌≡◌, ◌≤◌, ◌<◌, ℕ, zero, suc, ◌+◌, Bool, true, false, not, ◌&&◌, nat_le, ◌==◌, List, [], ◌∷◌, ◌++◌, ◌∙◌, chars, codes, cond, drop, encode_utf8, get_or, length, take, Option, None, Some, Result, Ok, Err, OnOk, refl, sym, ap, ap₂, if◌then◌else◌}
use Rattle.std.proofs.lemmas.List.{append_assoc, append-nil, length-take, length-drop, take-append-drop, take_more}
use Rattle.std.proofs.lemmas.List.Elements.{filter-append}
use Rattle.std.proofs.lemmas.Str.{encodes-chars, length-le-encodes}
use Rattle.std.proofs.lemmas.Bool.{ne_eqb}
use Rattle.std.specs.Bool.{⊤}
use Rattle.std.specs.Option.{IfSome}
use Rattle.std.specs.Str.{IsUtf8, encode_utf8_all}
use Rattle.std.specs.List.{filter, flat_map, list_all}
use Rattle.sv_text.specs.declared.no_memory.NoMemory.{NoMemory}
use Rattle.sv_report.specs.Folded.{PartsFit, PartsKeepCharacters, broken, broken_at, bytes_of, fit, folded_line, last_space, later_or_here, parts, parts_text}
use Rattle.sv_report.specs.declared.folded_lines.TheConstants.{LATER_WIDTH, LINE_WIDTH}

le_true : (a b : ℕ) → a ≤ b → nat_le a b ≡ true
le_true a b h = search (rules, h)

le_false : (a b : ℕ) → nat_le a b ≡ false → b < a
le_false a b h = search (rules, h)

true_le : (a b : ℕ) → nat_le a b ≡ true → a ≤ b
true_le a b h = search (rules, h)

lt_false : (a b : ℕ) → a < b → nat_le b a ≡ false
lt_false a b h = search (rules, h)

-- ---- the last space

last_space-pushed : (cs : List ℕ) (c : ℕ) → last_space (cs ++ c ∷ []) ≡ (if c == 32 then Some (length cs) else last_space cs)
last_space-pushed [] c = of_test (c == 32)
  where
    of_test : (b : Bool) → later_or_here b None ≡ (if b then Some 0 else None)
    of_test true = refl
    of_test false = refl
last_space-pushed (d ∷ cs) c = ap (later_or_here (d == 32)) (last_space-pushed cs c) ∙ of_test (c == 32)
  where
    of_test : (b : Bool) → later_or_here (d == 32) (if b then Some (length cs) else last_space cs) ≡ (if b then Some (suc (length cs)) else later_or_here (d == 32) (last_space cs))
    of_test true = refl
    of_test false = refl

last_space-more : (cs : List ℕ) (i c : ℕ) → i < length cs → c ≡ get_or cs i c → last_space (take (i + 1) cs) ≡ (if c == 32 then Some i else last_space (take i cs))
last_space-more cs i c lt is =
    ap last_space (take_more cs i c lt ∙ ap (λ d. take i cs ++ d ∷ []) (sym is)) ∙ last_space-pushed (take i cs) c
    ∙ ap (λ n. if c == 32 then Some n else last_space (take i cs)) (omega (arith, lt, length-take i cs))

pub at_space : (cs : List ℕ) (i c place : ℕ) (last : Option ℕ) → i < length cs → c ≡ get_or cs i c → place ≡ i → last ≡ Some place → c ≡ 32 → last ≡ last_space (take (i + 1) cs)
at_space cs i c place last lt is of_place of_last space =
    of_last ∙ ap Some of_place ∙ ap (λ b. if b then Some i else last_space (take i cs)) (sym (eq_true space)) ∙ sym (last_space-more cs i c lt is)
  where
    eq_true : c ≡ 32 → (c == 32) ≡ true
    eq_true e = ap (λ d. d == 32) e

pub at_other : (cs : List ℕ) (i c : ℕ) (was last : Option ℕ) → i < length cs → c ≡ get_or cs i c → was ≡ last_space (take i cs) → last ≡ was → (c ≡ 32 → ⊥)
    → last ≡ last_space (take (i + 1) cs)
at_other cs i c was last lt is of_was of_last other =
    of_last ∙ of_was ∙ ap (λ b. if b then Some i else last_space (take i cs)) (sym (ne_eqb c 32 other)) ∙ sym (last_space-more cs i c lt is)

-- A place of a space within a list.
abbrev Within : List ℕ → Option ℕ → Type 0
Within cs None = ⊤
Within cs (Some place) = place < length cs

last_space-within : (cs : List ℕ) → Within cs (last_space cs)
last_space-within [] = tt
last_space-within (c ∷ cs) = of_last (c == 32) (last_space cs) (last_space-within cs)
  where
    of_last : (b : Bool) (o : Option ℕ) → Within cs o → Within (c ∷ cs) (later_or_here b o)
    of_last true None h = omega arith
    of_last false None h = tt
    of_last b (Some place) h = omega (arith, h)

pub is_within : (cs : List ℕ) (o : Option ℕ) (n : ℕ) → o ≡ last_space cs → length cs ≤ n → IfSome o (λ place. place < n)
is_within cs o n e h = rw e (of_last (last_space cs) (last_space-within cs))
  where
    of_last : (o : Option ℕ) → Within cs o → IfSome o (λ place. place < n)
    of_last None w = tt
    of_last (Some place) w = omega (arith, w, h)

-- ---- the two pieces of a broken line

pub pieces-rest : (limit : ℕ) (line : List ℕ) → 0 < limit → limit < length line → length (broken limit line).1 < length line
pieces-rest limit line h l = of_place (last_space (take (limit + 1) line)) (last_space-within (take (limit + 1) line))
  where
    of_place : (o : Option ℕ) → Within (take (limit + 1) line) o → length (broken_at limit line o).1 < length line
    of_place None w = omega (arith, h, l, length-drop limit line)
    of_place (Some place) w = omega (arith, w, l, length-take (limit + 1) line, length-drop (suc place) line)

pieces-first : (limit : ℕ) (line : List ℕ) → limit < length line → length (broken limit line).0 ≤ limit
pieces-first limit line l = of_place (last_space (take (limit + 1) line)) (last_space-within (take (limit + 1) line))
  where
    of_place : (o : Option ℕ) → Within (take (limit + 1) line) o → length (broken_at limit line o).0 ≤ limit
    of_place None w = omega (arith, l, length-take limit line)
    of_place (Some place) w = omega (arith, w, l, length-take (limit + 1) line, length-take place line)

-- ---- how often a line breaks

-- A line that is short enough.
pub parts-short : (times limit : ℕ) (line : List ℕ) → nat_le (length line) limit ≡ true → parts times limit line ≡ line ∷ []
unfolding parts
parts-short zero limit line h = refl
parts-short (suc times) limit line h = ap (λ b. if b then line ∷ [] else (broken limit line).0 ∷ parts times LATER_WIDTH (broken limit line).1) h

pub parts-long : (times limit : ℕ) (line : List ℕ) → nat_le (length line) limit ≡ false
    → parts (suc times) limit line ≡ (broken limit line).0 ∷ parts times LATER_WIDTH (broken limit line).1
unfolding parts
parts-long times limit line h = ap (λ b. if b then line ∷ [] else (broken limit line).0 ∷ parts times LATER_WIDTH (broken limit line).1) h

-- More times than characters change nothing.
pub parts-enough : (n m limit : ℕ) (line : List ℕ) → 0 < limit → length line ≤ n → length line ≤ m → parts n limit line ≡ parts m limit line
parts-enough zero m limit line h p q =
    parts-short zero limit line (le_true (length line) limit (omega (arith, p))) ∙ sym (parts-short m limit line (le_true (length line) limit (omega (arith, p))))
parts-enough (suc n) zero limit line h p q =
    parts-short (suc n) limit line (le_true (length line) limit (omega (arith, q))) ∙ sym (parts-short zero limit line (le_true (length line) limit (omega (arith, q))))
parts-enough (suc n) (suc m) limit line h p q = of_test (nat_le (length line) limit) refl (parts-enough n m LATER_WIDTH (broken limit line).1 (omega arith))
  where
    shorter : (k : ℕ) → length line ≤ suc k → nat_le (length line) limit ≡ false → length (broken limit line).1 ≤ k
    shorter k r e = omega (arith, r, pieces-rest limit line h (le_false (length line) limit e))

    of_test : (b : Bool) → nat_le (length line) limit ≡ b
        → (length (broken limit line).1 ≤ n → length (broken limit line).1 ≤ m → parts n LATER_WIDTH (broken limit line).1 ≡ parts m LATER_WIDTH (broken limit line).1)
        → parts (suc n) limit line ≡ parts (suc m) limit line
    of_test true e same = parts-short (suc n) limit line e ∙ sym (parts-short (suc m) limit line e)
    of_test false e same =
        parts-long n limit line e ∙ ap (λ rest. (broken limit line).0 ∷ rest) (same (shorter n p e) (shorter m q e)) ∙ sym (parts-long m limit line e)

-- ---- the text of parts

in_parts : (first part : List ℕ) (others : List (List ℕ)) → parts_text (first ∷ part ∷ others) ≡ (bytes_of first ++ codes "\n      ") ++ parts_text (part ∷ others)
in_parts first part others = search (rules, append_assoc)

before_parts : (n limit : ℕ) (first line : List ℕ) → parts_text (first ∷ parts n limit line) ≡ (bytes_of first ++ codes "\n      ") ++ parts_text (parts n limit line)
unfolding parts
before_parts zero limit first line = in_parts first line []
before_parts (suc n) limit first line = of_test (nat_le (length line) limit)
  where
    of_test : (b : Bool)
        → parts_text (first ∷ (if b then line ∷ [] else (broken limit line).0 ∷ parts n LATER_WIDTH (broken limit line).1))
        ≡ (bytes_of first ++ codes "\n      ") ++ parts_text (if b then line ∷ [] else (broken limit line).0 ∷ parts n LATER_WIDTH (broken limit line).1)
    of_test true = in_parts first line []
    of_test false = in_parts first (broken limit line).0 (parts n LATER_WIDTH (broken limit line).1)

-- The text of the parts of a longer line: its first part, and the parts of the rest.
one_part : (limit : ℕ) (line : List ℕ) → 0 < limit → limit < length line
    → parts_text (parts (length line) limit line)
    ≡ (bytes_of (broken limit line).0 ++ codes "\n      ") ++ parts_text (parts (length (broken limit line).1) LATER_WIDTH (broken limit line).1)
one_part limit line h l =
    ap parts_text (parts-enough (length line) (suc (length line)) limit line h (omega arith) (omega arith) ∙ parts-long (length line) limit line (lt_false limit (length line) l))
    ∙ before_parts (length line) LATER_WIDTH (broken limit line).0 (broken limit line).1
    ∙ ap (λ others. (bytes_of (broken limit line).0 ++ codes "\n      ") ++ parts_text others)
    (parts-enough (length line) (length (broken limit line).1) LATER_WIDTH (broken limit line).1 (omega arith) (omega (arith, pieces-rest limit line h l)) (omega arith))

pub one_step : (limit : ℕ) (line rest before after whole : List ℕ) → 0 < limit → limit < length line → rest ≡ (broken limit line).1
    → after ≡ before ++ (bytes_of (broken limit line).0 ++ codes "\n      ") → before ++ parts_text (parts (length line) limit line) ≡ whole
    → after ++ parts_text (parts (length rest) LATER_WIDTH rest) ≡ whole
one_step limit line rest before after whole h l of_rest of_after of_whole =
    ap₂ (λ text others. text ++ parts_text (parts (length others) LATER_WIDTH others)) of_after of_rest
    ∙ append_assoc before (bytes_of (broken limit line).0 ++ codes "\n      ") (parts_text (parts (length (broken limit line).1) LATER_WIDTH (broken limit line).1))
    ∙ ap (λ text. before ++ text) (sym (one_part limit line h l)) ∙ of_whole

-- The text of a line that is short enough.
last_part : (limit : ℕ) (line before after whole : List ℕ) → length line ≤ limit → after ≡ before ++ bytes_of line
    → before ++ parts_text (parts (length line) limit line) ≡ whole → after ≡ whole
last_part limit line before after whole h of_after of_whole =
    of_after ∙ ap (λ text. before ++ text) (sym (append-nil (bytes_of line)) ∙ ap parts_text (sym (parts-short (length line) limit line (le_true (length line) limit h)))) ∙ of_whole

pub last_written : {A : Type 0} (result : Result A NoMemory) (limit : ℕ) (line before after whole : List ℕ) → length line ≤ limit → OnOk result (after ≡ before ++ bytes_of line)
    → before ++ parts_text (parts (length line) limit line) ≡ whole → OnOk result (after ≡ whole)
last_written (Ok a) limit line before after whole h of_after of_whole = last_part limit line before after whole h of_after of_whole
last_written (Err fault) limit line before after whole h of_after of_whole = tt

bytes_encode : (cs : List ℕ) → bytes_of cs ≡ encode_utf8_all cs
bytes_encode [] = refl
bytes_encode (c ∷ cs) = ap (λ rest. encode_utf8 c ++ rest) (bytes_encode cs)

-- A line of few bytes.
pub few_bytes : (line : List ℕ) → IsUtf8 line → length line ≤ LINE_WIDTH → line ≡ folded_line line
few_bytes line utf8 h =
    sym (ap parts_text (parts-short (length (chars line)) LINE_WIDTH (chars line) (le_true (length (chars line)) LINE_WIDTH within)) ∙ append-nil (bytes_of (chars line))
    ∙ bytes_encode (chars line) ∙ encodes-chars line utf8)
  where
    within : length (chars line) ≤ LINE_WIDTH
    within = omega (arith, h, length-le-encodes (chars line), ap length (encodes-chars line utf8))

-- ---- the parts fit

later_fit : (times : ℕ) (line : List ℕ) → length line ≤ times → list_all (λ other. nat_le (length (codes "      " ++ other)) LINE_WIDTH) (parts times LATER_WIDTH line) ≡ true
later_fit zero line h =
    ap (list_all (λ other. nat_le (length (codes "      " ++ other)) LINE_WIDTH)) (parts-short zero LATER_WIDTH line (le_true (length line) LATER_WIDTH (omega (arith, h))))
    ∙ ap (λ b. b && true) (le_true (length (codes "      " ++ line)) LINE_WIDTH (omega (arith, h)))
later_fit (suc times) line h = of_test (nat_le (length line) LATER_WIDTH) refl (later_fit times (broken LATER_WIDTH line).1)
  where
    of_test : (b : Bool) → nat_le (length line) LATER_WIDTH ≡ b
        → (length (broken LATER_WIDTH line).1 ≤ times → list_all (λ other. nat_le (length (codes "      " ++ other)) LINE_WIDTH) (parts times LATER_WIDTH (broken LATER_WIDTH line).1) ≡ true)
        → list_all (λ other. nat_le (length (codes "      " ++ other)) LINE_WIDTH) (parts (suc times) LATER_WIDTH line) ≡ true
    of_test true e fits =
        ap (list_all (λ other. nat_le (length (codes "      " ++ other)) LINE_WIDTH)) (parts-short (suc times) LATER_WIDTH line e)
        ∙ ap (λ b. b && true) (le_true (length (codes "      " ++ line)) LINE_WIDTH (omega (arith, true_le (length line) LATER_WIDTH e)))
    of_test false e fits =
        ap (list_all (λ other. nat_le (length (codes "      " ++ other)) LINE_WIDTH)) (parts-long times LATER_WIDTH line e)
        ∙ ap₂ (λ a b. a && b) (le_true (length (codes "      " ++ (broken LATER_WIDTH line).0)) LINE_WIDTH (omega (arith, pieces-first LATER_WIDTH line (le_false (length line) LATER_WIDTH e))))
        (fits (omega (arith, h, pieces-rest LATER_WIDTH line (omega arith) (le_false (length line) LATER_WIDTH e))))

all_fit : (times : ℕ) (line : List ℕ) → length line ≤ times → fit (parts times LINE_WIDTH line) ≡ true
all_fit zero line h =
    ap fit (parts-short zero LINE_WIDTH line (le_true (length line) LINE_WIDTH (omega (arith, h)))) ∙ ap (λ b. b && true) (le_true (length line) LINE_WIDTH (omega (arith, h)))
all_fit (suc times) line h = of_test (nat_le (length line) LINE_WIDTH) refl
  where
    of_test : (b : Bool) → nat_le (length line) LINE_WIDTH ≡ b → fit (parts (suc times) LINE_WIDTH line) ≡ true
    of_test true e = ap fit (parts-short (suc times) LINE_WIDTH line e) ∙ ap (λ b. b && true) e
    of_test false e =
        ap fit (parts-long times LINE_WIDTH line e)
        ∙ ap₂ (λ a b. a && b) (le_true (length (broken LINE_WIDTH line).0) LINE_WIDTH (pieces-first LINE_WIDTH line (le_false (length line) LINE_WIDTH e)))
        (later_fit times (broken LINE_WIDTH line).1 (omega (arith, h, pieces-rest LINE_WIDTH line (omega arith) (le_false (length line) LINE_WIDTH e))))

pub parts_fit : PartsFit
parts_fit line = all_fit (length line) line (omega arith)

-- ---- the parts keep the characters

abbrev solid : List ℕ → List ℕ
solid = filter (λ c. not (c == 32))

abbrev Kept : List ℕ → Option ℕ → Type 0
Kept line None = ⊤
Kept line (Some place) = solid (take place line) ++ solid (drop (suc place) line) ≡ solid line

onto : (b : Bool) (c : ℕ) (xs ys zs : List ℕ) → xs ++ ys ≡ zs → cond b (c ∷ xs) xs ++ ys ≡ cond b (c ∷ zs) zs
onto true c xs ys zs h = ap (λ rest. c ∷ rest) h
onto false c xs ys zs h = h

kept_at : (cs rest : List ℕ) → Kept (cs ++ rest) (last_space cs)
kept_at [] rest = tt
kept_at (c ∷ cs) rest = of_last (c == 32) refl (last_space cs) (kept_at cs rest)
  where
    of_last : (b : Bool) → (c == 32) ≡ b → (o : Option ℕ) → Kept (cs ++ rest) o → Kept (c ∷ (cs ++ rest)) (later_or_here b o)
    of_last true e None h = sym (ap (λ is_space. cond (not is_space) (c ∷ solid (cs ++ rest)) (solid (cs ++ rest))) e)
    of_last false e None h = tt
    of_last b e (Some place) h = onto (not (c == 32)) c (solid (take place (cs ++ rest))) (solid (drop (suc place) (cs ++ rest))) (solid (cs ++ rest)) h

kept_same : (all line : List ℕ) (o : Option ℕ) → all ≡ line → Kept all o → Kept line o
kept_same all line o e h = rw (sym e) h

kept_broken : (limit : ℕ) (line : List ℕ) → solid (broken limit line).0 ++ solid (broken limit line).1 ≡ solid line
kept_broken limit line = of_place (last_space (take (limit + 1) line)) (kept_same _ line (last_space (take (limit + 1) line)) (take-append-drop (limit + 1) line) (kept_at (take (limit + 1) line) (drop (limit + 1) line)))
  where
    of_place : (o : Option ℕ) → Kept line o → solid (broken_at limit line o).0 ++ solid (broken_at limit line o).1 ≡ solid line
    of_place None h = sym (filter-append (λ c. not (c == 32)) (take limit line) (drop limit line)) ∙ ap solid (take-append-drop limit line)
    of_place (Some place) h = h

kept : (times limit : ℕ) (line : List ℕ) → solid (flat_map (λ part. part) (parts times limit line)) ≡ solid line
unfolding parts
kept zero limit line = ap solid (append-nil line)
kept (suc times) limit line = of_test (nat_le (length line) limit) (kept times LATER_WIDTH (broken limit line).1)
  where
    of_test : (b : Bool) → solid (flat_map (λ part. part) (parts times LATER_WIDTH (broken limit line).1)) ≡ solid (broken limit line).1
        → solid (flat_map (λ part. part) (if b then line ∷ [] else (broken limit line).0 ∷ parts times LATER_WIDTH (broken limit line).1)) ≡ solid line
    of_test true h = ap solid (append-nil line)
    of_test false h =
        filter-append (λ c. not (c == 32)) (broken limit line).0 (flat_map (λ part. part) (parts times LATER_WIDTH (broken limit line).1))
        ∙ ap (λ rest. solid (broken limit line).0 ++ rest) h ∙ kept_broken limit line

pub parts_keep_characters : PartsKeepCharacters
parts_keep_characters line = kept (length line) LINE_WIDTH line
