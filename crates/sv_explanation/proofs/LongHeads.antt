-- Heads whose request line leaves no room for their end.
use Rattle.std.proofs.Common.{◌≡◌, ℕ, zero, suc, ◌+◌, ◌-◌, ◌<◌, ◌≤◌, Bool, true, false, not, ◌&&◌, List, [], ◌∷◌, ◌++◌, length, take, drop, nat_eq, refl, sym, ap, ◌∙◌, subst, ◌⊎◌, inl, inr, ⊎_elim, codes, arith, length-append}
use Rattle.std.specs.List.{flat_map, list_all}
use Rattle.std.specs.Prelude.{IsTrue}
use Rattle.std.proofs.lemmas.Bool.{and_parts, cases_Bool, cases_lt, cond-false, eqb-true, le-ltb, ltb-false, ltb-true, ne_eqb, or_from, or_left}
use Rattle.std.proofs.Math.Seq.{take-append-add}
use Rattle.std.proofs.lemmas.List.{append_assoc, drop_at, length-take, take-append-le, take-take, take_all}
use Rattle.std.proofs.lemmas.List.Elements.{All-head, All-tail}
use Rattle.std.proofs.lemmas.List.Folds.{list_all-append}
use Rattle.httparse.specs.Grammar.{AllPass, IsRequestHead, RequestHead, LineEnd, crlf, lf, is_token_byte, is_uri_byte, print_end, print_request, print_section, print_version}
use lib.Pointwise.{pointwise}
use Rattle.sv_text.proofs.FrontLemmas.{shortest_front_none, shortest_front_some}
use Rattle.sv_text.specs.Front.{cut_at, shortest_front}
use Rattle.sv_text.specs.declared.front.Cut.TheVariants.{Endless, Unended, Whole}
use Rattle.sv_wire.proofs.LineLemmas.{no_head_ends}
use Rattle.sv_wire.specs.Head.{ends_head}
use Rattle.sv_wire.specs.Reads.{cut_head}
use Rattle.sv_wire.specs.declared.limits.TheConstants.{MAX_HEAD_LEN}
use Rattle.sv_explanation.specs.Heads.{is_too_long, shortest_head}

-- ---- texts without line feeds

abbrev is_other : ℕ → Bool
is_other b = not (nat_eq 10 b)

other_is : (b : ℕ) → is_other b ≡ true → nat_eq 10 b ≡ false
other_is b is = ⊎_elim (λ same. absurd (cc)) (λ apart. apart) (cases_Bool (nat_eq 10 b))

no_line : (text : List ℕ) (n : ℕ) → list_all is_other text ≡ true → pointwise nat_eq (10 ∷ []) (drop n text) ≡ false
no_line [] zero is = refl
no_line [] (suc n) is = refl
no_line (b ∷ text) zero is = ap (λ same. same && pointwise nat_eq [] text) (other_is b (and_parts _ _ is).0)
no_line (b ∷ text) (suc n) is = no_line text n (and_parts _ _ is).1

all_taken : (k : ℕ) (text : List ℕ) → list_all is_other text ≡ true → list_all is_other (take k text) ≡ true
all_taken zero text is = refl
all_taken (suc k) [] is = refl
all_taken (suc k) (b ∷ text) is =
    ap (λ one. one && list_all is_other (take k text)) (and_parts (is_other b) _ is).0 ∙ all_taken k text (and_parts (is_other b) _ is).1

no_head_in : (text : List ℕ) (k : ℕ) → list_all is_other text ≡ true → ends_head (take k text) ≡ false
no_head_in text k is = no_head_ends (take k text) (no_line (take k text) _ (all_taken k text is))

-- ---- the byte after a request line

-- A text that ends in `.`, another byte and any byte ends no head.
no_head_here : (front : List ℕ) (d c : ℕ) → nat_eq 10 d ≡ false → ends_head (front ++ 46 ∷ d ∷ c ∷ []) ≡ false
no_head_here front d c other =
    let text = front ++ 46 ∷ d ∷ c ∷ [] in
    let two : drop (length text - 2) text ≡ d ∷ c ∷ [] =
    ap (drop (length text - 2)) (sym (append_assoc front (46 ∷ []) (d ∷ c ∷ [])))
    ∙ drop_at (front ++ 46 ∷ []) (d ∷ c ∷ []) _ (omega (arith, length-append front (46 ∷ d ∷ c ∷ []), length-append front (46 ∷ []))) in
    let three : drop (length text - 3) text ≡ 46 ∷ d ∷ c ∷ [] =
    drop_at front (46 ∷ d ∷ c ∷ []) _ (omega (arith, length-append front (46 ∷ d ∷ c ∷ []))) in
    or_from _ _
    (ap (pointwise nat_eq (10 ∷ 10 ∷ [])) two ∙ ap (λ same. same && pointwise nat_eq (10 ∷ []) (c ∷ [])) other)
    (ap (pointwise nat_eq (10 ∷ 13 ∷ 10 ∷ [])) three)

near_by : (front : List ℕ) (d c : ℕ) (line more : List ℕ) → line ≡ front ++ 46 ∷ d ∷ [] → list_all is_other line ≡ true → nat_eq 10 d ≡ false
    → (k : ℕ) → k ≤ length line + 1 → (length line < k) ⊎ (k ≤ length line) → ends_head (take k (line ++ c ∷ more)) ≡ false
near_by front d c line more is others other k within (inl last) =
    let next : k ≡ length line + 1 = omega (arith, last, within) in
    ap (λ n. ends_head (take n (line ++ c ∷ more))) next
    ∙ ap ends_head (take-append-add line (c ∷ more) 1 ∙ ap (λ text. text ++ c ∷ []) is ∙ append_assoc front (46 ∷ d ∷ []) (c ∷ []))
    ∙ no_head_here front d c other
near_by front d c line more is others other k within (inr inside) =
    ap ends_head (take-append-le k line (c ∷ more) inside) ∙ no_head_in line k others

-- ---- the cut of a head

endless : (text : List ℕ) → MAX_HEAD_LEN ≤ length text → ((k : ℕ) → k ≤ MAX_HEAD_LEN → ends_head (take k text) ≡ false) → cut_head text ≡ Endless
endless text long fails =
    ap (cut_at MAX_HEAD_LEN text)
    (shortest_front_none ends_head (take MAX_HEAD_LEN text)
    (λ k within. let below : k ≤ MAX_HEAD_LEN = omega (arith, within, length-take MAX_HEAD_LEN text) in
    ap ends_head (take-take k MAX_HEAD_LEN text below) ∙ fails k below))
    ∙ cond-false _ Unended Endless (le-ltb _ _ (omega (arith, long)))

-- ---- the bytes of a request line

other_token : (b : ℕ) → IsTrue (is_token_byte b) → is_other b ≡ true
unfolding is_token_byte
other_token b is =
    ⊎_elim
    (λ same. absurd (let token : IsTrue (is_token_byte 10) = subst (λ n. IsTrue (is_token_byte n)) (sym (eqb-true 10 b same)) is in cc))
    (λ apart. ap not apart)
    (cases_Bool (nat_eq 10 b))

other_uri : (b : ℕ) → IsTrue (is_uri_byte b) → is_other b ≡ true
other_uri b is =
    ⊎_elim
    (λ same. absurd (let byte : IsTrue (is_uri_byte 10) = subst (λ n. IsTrue (is_uri_byte n)) (sym (eqb-true 10 b same)) is in cc))
    (λ apart. ap not apart)
    (cases_Bool (nat_eq 10 b))

all_other : (test : ℕ → Bool) → ((b : ℕ) → IsTrue (test b) → is_other b ≡ true) → (text : List ℕ) → AllPass test text → list_all is_other text ≡ true
all_other test each [] all = refl
all_other test each (b ∷ text) all =
    ap (λ one. one && list_all is_other text) (each b (All-head (λ n. IsTrue (test n)) b text all))
    ∙ all_other test each text (All-tail (λ n. IsTrue (test n)) b text all)

-- A request line without its end, cut before the last `.`.
abbrev start_of : RequestHead → List ℕ
start_of head = (head.method ++ 32 ∷ head.target) ++ codes " HTTP/1"

abbrev line_of : RequestHead → List ℕ
line_of head = (head.method ++ 32 ∷ head.target) ++ 32 ∷ print_version head.minor

line_is : (head : RequestHead) → line_of head ≡ start_of head ++ 46 ∷ (48 + head.minor) ∷ []
line_is head = sym (append_assoc (head.method ++ 32 ∷ head.target) (codes " HTTP/1") (46 ∷ (48 + head.minor) ∷ []))

digit_is : (minor : ℕ) → nat_eq 10 (48 + minor) ≡ false
digit_is minor = ne_eqb 10 (48 + minor) (λ same. omega (arith, same))

both : (a b : Bool) → a ≡ true → b ≡ true → (a && b) ≡ true
both a b one other = ap (λ x. x && b) one ∙ other

target_other : (head : RequestHead) → IsRequestHead head → list_all is_other (head.method ++ 32 ∷ head.target) ≡ true
target_other head is =
    list_all-append is_other head.method (32 ∷ head.target)
    ∙ both _ _ (all_other is_token_byte other_token head.method is.method.1) (all_other is_uri_byte other_uri head.target is.target.1)

line_other : (head : RequestHead) → IsRequestHead head → list_all is_other (line_of head) ≡ true
line_other head is =
    list_all-append is_other (head.method ++ 32 ∷ head.target) (32 ∷ print_version head.minor)
    ∙ both _ _ (target_other head is) (both _ _ (ap not (digit_is head.minor)) refl)

line_len : (head : RequestHead) → length (line_of head) ≡ length head.method + length head.target + 10
line_len head =
    let version : length (32 ∷ print_version head.minor) ≡ 9 = refl in
    omega (arith, version, length-append (head.method ++ 32 ∷ head.target) (32 ∷ print_version head.minor), length-append head.method (32 ∷ head.target))

-- A method and a target that are too long leave no room for the end of the head.
long_line : (head : RequestHead) → is_too_long head.method head.target ≡ true → MAX_HEAD_LEN ≤ length (line_of head) + 1
long_line head is =
    let method = head.method in
    let target = head.target in
    let long : MAX_HEAD_LEN < length (shortest_head method target) = ltb-true MAX_HEAD_LEN (length (shortest_head method target)) is in
    omega (arith, long, line_len head, length-append (method ++ codes " " ++ target) (codes " HTTP/1.0\n\n"), length-append (method ++ codes " ") target, length-append method (codes " "))

-- If the request line leaves no room, the head has no end, whatever follows the line.
endless_after : (head : RequestHead) (c : ℕ) (more : List ℕ) → IsRequestHead head → is_too_long head.method head.target ≡ true
    → cut_head (line_of head ++ c ∷ more) ≡ Endless
endless_after head c more is too_long =
    let line = line_of head in
    let long = long_line head too_long in
    endless (line ++ c ∷ more) (omega (arith, long, length-append line (c ∷ more)))
    (λ k within. near_by (start_of head) (48 + head.minor) c line more (line_is head) (line_other head is) (digit_is head.minor) k (omega (arith, long, within)) (cases_lt (length line) k))

-- The text of a head without empty lines before it, and what follows.
text_is : (head : RequestHead) (rest : List ℕ) → head.blank ≡ []
    → print_request head ++ rest ≡ line_of head ++ (print_end head.line_end ++ (print_section head.fields head.last ++ rest))
unfolding print_request
text_is head rest none =
    ap (λ blank. ((((flat_map print_end blank ++ head.method) ++ 32 ∷ head.target) ++ 32 ∷ print_version head.minor) ++ print_end head.line_end ++ print_section head.fields head.last) ++ rest) none
    ∙ append_assoc (line_of head ++ print_end head.line_end) (print_section head.fields head.last) rest
    ∙ append_assoc (line_of head) (print_end head.line_end) (print_section head.fields head.last ++ rest)

endless_by : (head : RequestHead) (rest : List ℕ) (ending : LineEnd) → IsRequestHead head → is_too_long head.method head.target ≡ true
    → cut_head (line_of head ++ (print_end ending ++ rest)) ≡ Endless
endless_by head rest crlf is too_long = endless_after head 13 (10 ∷ rest) is too_long
endless_by head rest lf is too_long = endless_after head 10 rest is too_long

-- A head with such a method and target has no end within its limit.
pub long_head_is_endless : (head : RequestHead) (rest : List ℕ) → is_too_long head.method head.target ≡ true → IsRequestHead head → head.blank ≡ []
    → cut_head (print_request head ++ rest) ≡ Endless
long_head_is_endless head rest too_long is none =
    ap cut_head (text_is head rest none) ∙ endless_by head (print_section head.fields head.last ++ rest) head.line_end is too_long

-- ---- a shortest head that fits

short_is : (method target : List ℕ) → shortest_head method target ≡ ((method ++ 32 ∷ target) ++ codes " HTTP/1.0") ++ 10 ∷ 10 ∷ []
short_is method target =
    ap (λ front. front ++ codes " HTTP/1.0\n\n") (append_assoc method (codes " ") target)
    ∙ sym (append_assoc (method ++ 32 ∷ target) (codes " HTTP/1.0") (10 ∷ 10 ∷ []))

ends_here : (line : List ℕ) → ends_head (line ++ 10 ∷ 10 ∷ []) ≡ true
ends_here line =
    or_left _ _ (ap (pointwise nat_eq (10 ∷ 10 ∷ [])) (drop_at line (10 ∷ 10 ∷ []) _ (omega (arith, length-append line (10 ∷ 10 ∷ [])))))

whole : (line : List ℕ) → length (line ++ 10 ∷ 10 ∷ []) ≤ MAX_HEAD_LEN
    → ((k : ℕ) → k ≤ length line + 1 → ends_head (take k (line ++ 10 ∷ 10 ∷ [])) ≡ false)
    → cut_head (line ++ 10 ∷ 10 ∷ []) ≡ Whole (length (line ++ 10 ∷ 10 ∷ []))
whole line fits fails =
    let text = line ++ 10 ∷ 10 ∷ [] in
    ap (λ front. cut_at MAX_HEAD_LEN text (shortest_front ends_head front)) (take_all MAX_HEAD_LEN text fits)
    ∙ ap (cut_at MAX_HEAD_LEN text) (shortest_front_some ends_head text (length text) (record {
      fits = omega arith;
      passes = ap ends_head (take_all (length text) text (omega arith)) ∙ ends_here line;
      first = λ k below. fails k (omega (arith, below, length-append line (10 ∷ 10 ∷ [])));
    }))

-- The shortest head with a method and a target that are not too long ends within its limit.
pub short_head_is_whole : (head : RequestHead) → is_too_long head.method head.target ≡ false → IsRequestHead head
    → cut_head (shortest_head head.method head.target) ≡ Whole (length (shortest_head head.method head.target))
short_head_is_whole head fits is =
    let method = head.method in
    let target = head.target in
    let line : List ℕ = (method ++ 32 ∷ target) ++ codes " HTTP/1.0" in
    let short = short_is method target in
    let below : length (shortest_head method target) ≤ MAX_HEAD_LEN = ltb-false MAX_HEAD_LEN (length (shortest_head method target)) fits in
    let front : List ℕ = (method ++ 32 ∷ target) ++ codes " HTTP/1" in
    let line_front : line ≡ front ++ 46 ∷ 48 ∷ [] = sym (append_assoc (method ++ 32 ∷ target) (codes " HTTP/1") (46 ∷ 48 ∷ [])) in
    let others : list_all is_other line ≡ true =
    list_all-append is_other (method ++ 32 ∷ target) (codes " HTTP/1.0") ∙ both _ _ (target_other head is) refl in
    ap cut_head short
    ∙ whole line (omega (arith, below, ap length short))
    (λ k within. near_by front 48 10 line (10 ∷ []) line_front others refl k within (cases_lt (length line) k))
    ∙ ap (λ text. Whole (length text)) (sym short)
