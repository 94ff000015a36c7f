-- The contents of the nodes of a trie after one is added or changed.
use Rattle.std.proofs.Common.{◌≡◌, ◌≤◌, ◌≢◌, ℕ, ◌+◌, ◌<◌, cond, List, [], ◌∷◌, ◌++◌, eqb, ltb, length, get_or, slice_set, refl, sym, ◌∙◌, ap, arith, zero, suc, length-append, Option, Some, None, inl, inr}
use Rattle.std.specs.HashMap.{get_by_text}
use Rattle.std.specs.List.{slice_get}
use Rattle.std.specs.Option.{option_and_then, option_or}
use Rattle.std.specs.Str.{bytes_eq}
use Rattle.std.proofs.lemmas.Bool.{cases_Bool, eqb-false, eqb-true, ltb-false, ltb-true}
use Rattle.std.proofs.lemmas.List.{get_or-set_other, get_or-set_same, length-set}
use Rattle.std.proofs.lemmas.Option.{slice_get-get_or, slice_get_past, slice_get_read}
use Rattle.sv_mapping.specs.declared.trie_node.Node.{Node}
use Rattle.sv_mapping.specs.Trie.{Adds, Enters, Grows, IsTree, along, child, exact, prefix, kept, looked_up}
use Rattle.sv_mapping.proofs.Trees.{cases_Option, kept_here, kept_others}

pub child_at : (nodes : List Node) (at : ℕ) (node : Node) (segment : List ℕ) → at < length nodes → node ≡ get_or nodes at node → child nodes at segment ≡ get_by_text node.children segment
child_at nodes at node segment within is = rw (slice_get_read nodes (length nodes) at node refl within is) refl

pub exact_at : (nodes : List Node) (at : ℕ) (node : Node) → at < length nodes → node ≡ get_or nodes at node → exact nodes at ≡ node.exact
exact_at nodes at node within is = rw (slice_get_read nodes (length nodes) at node refl within is) refl

pub prefix_at : (nodes : List Node) (at : ℕ) (node : Node) → at < length nodes → node ≡ get_or nodes at node → prefix nodes at ≡ node.prefix
prefix_at nodes at node within is = rw (slice_get_read nodes (length nodes) at node refl within is) refl

-- ---- any reading f of the nodes
abbrev pub read : {X : Type 0} → (Node → Option X) → List Node → ℕ → Option X
read f nodes at = option_and_then f (slice_get nodes at)

read-push : {X : Type 0} (f : Node → Option X) (nodes : List Node) (fresh : Node) (i : ℕ) → f fresh ≡ None → read f (nodes ++ fresh ∷ []) i ≡ read f nodes i
read-push f [] fresh zero none = none
read-push f [] fresh (suc i) none = refl
read-push f (node ∷ nodes) fresh zero none = refl
read-push f (node ∷ nodes) fresh (suc i) none = read-push f nodes fresh i none

set_same : (nodes : List Node) (at : ℕ) (node : Node) → at < length nodes → slice_get (slice_set nodes at node) at ≡ Some node
set_same nodes at node within = slice_get-get_or (slice_set nodes at node) at node (omega (arith, length-set nodes at node)) ∙ ap Some (get_or-set_same nodes at node node within)

set_other : (nodes : List Node) (at i : ℕ) (node : Node) → i ≢ at → slice_get (slice_set nodes at node) i ≡ slice_get nodes i
set_other nodes at i node apart =
    elim (cases_Bool (ltb i (length nodes))) [
      | inl e ↦
          let within = ltb-true _ _ e in
          slice_get-get_or (slice_set nodes at node) i node (omega (arith, length-set nodes at node)) ∙ (ap Some (get_or-set_other nodes at i node node apart) ∙ sym (slice_get-get_or nodes i node within))
      | inr e ↦
          let past = ltb-false _ _ e in
          slice_get_past (slice_set nodes at node) i (omega (arith, length-set nodes at node)) ∙ sym (slice_get_past nodes i past)
    ]

pub read-set_same : {X : Type 0} (f : Node → Option X) (nodes : List Node) (at : ℕ) (node : Node) → at < length nodes → read f (slice_set nodes at node) at ≡ f node
read-set_same f nodes at node within = rw (set_same nodes at node within) refl

pub read-set_other : {X : Type 0} (f : Node → Option X) (nodes : List Node) (at i : ℕ) (node : Node) → i ≢ at → read f (slice_set nodes at node) i ≡ read f nodes i
read-set_other f nodes at i node apart = rw (set_other nodes at i node apart) refl

-- If the reading of the changed node stays the same, all readings do.
pub read-set_kept : {X : Type 0} (f : Node → Option X) (nodes : List Node) (at i : ℕ) (was node : Node) → at < length nodes → was ≡ get_or nodes at was → f node ≡ f was → read f (slice_set nodes at node) i ≡ read f nodes i
read-set_kept f nodes at i was node within is same =
    elim (cases_Bool (eqb i at)) [
      | inl e ↦ rw (eqb-true i at e) (read-set_same f nodes at node within ∙ (same ∙ sym (rw (slice_get_read nodes (length nodes) at was refl within is) refl)))
      | inr e ↦ read-set_other f nodes at i node (eqb-false i at e)
    ]

pub grown : (old pushed : List Node) (fresh was node : Node) (at : ℕ) (segment : List ℕ) → at < length old → pushed ≡ old ++ fresh ∷ [] → was ≡ get_or pushed at was
    → ((name : List ℕ) → get_by_text fresh.children name ≡ None) → fresh.exact ≡ None → fresh.prefix ≡ None
    → ((name : List ℕ) → get_by_text node.children name ≡ cond (bytes_eq segment name) (Some (length old)) (get_by_text was.children name)) → node.exact ≡ was.exact → node.prefix ≡ was.prefix
    → Grows old (slice_set pushed at node) at segment (length old)
grown old pushed fresh was node at segment within push is no_child no_exact no_prefix children exacts prefixes = record {
  is_next = refl;
  count = length-set pushed at node ∙ longer;
  children = λ from name. elim (cases_Bool (eqb from at)) [
    | inl e ↦
        rw (e, eqb-true from at e) (read-set_same (λ n. get_by_text n.children name) pushed at node inside
        ∙ (children name ∙ ap (cond (bytes_eq segment name) (Some (length old))) (sym (child_at pushed at was name inside is) ∙ known (λ n. get_by_text n.children name) (no_child name) at)))
    | inr e ↦ rw e (read-set_other (λ n. get_by_text n.children name) pushed at from node (eqb-false from at e) ∙ known (λ n. get_by_text n.children name) (no_child name) from)
  ];
  exacts = λ from. read-set_kept (λ n. n.exact) pushed at from was node inside is exacts ∙ known (λ n. n.exact) no_exact from;
  prefixes = λ from. read-set_kept (λ n. n.prefix) pushed at from was node inside is prefixes ∙ known (λ n. n.prefix) no_prefix from;
}
  where
    longer : length pushed ≡ length old + 1
    longer = ap length push ∙ length-append old (fresh ∷ [])

    inside : at < length pushed
    inside = omega (arith, longer)

    known : {X : Type 0} (f : Node → Option X) → f fresh ≡ None → (i : ℕ) → read f pushed i ≡ read f old i
    known f none i = rw push (read-push f old fresh i none)

-- ---- one step along
pub along_none : (nodes : List Node) (at : ℕ) (held : Option ℕ) (rest behind : List (List ℕ)) (segment : List ℕ) → rest ≡ segment ∷ behind → child nodes at segment ≡ None → along (child nodes) (exact nodes) (prefix nodes) at held rest ≡ (None, held)
along_none nodes at held rest behind segment cut none = rw (cut, none) refl

pub along_some : (nodes : List Node) (at next : ℕ) (held : Option ℕ) (rest behind : List (List ℕ)) (segment : List ℕ) → rest ≡ segment ∷ behind → child nodes at segment ≡ Some next → along (child nodes) (exact nodes) (prefix nodes) at held rest ≡ along (child nodes) (exact nodes) (prefix nodes) next (option_or (prefix nodes next) held) behind
along_some nodes at next held rest behind segment cut some = rw (cut, some) refl

pub looked_none : (nodes : List Node) (at : ℕ) (rest behind : List (List ℕ)) (segment : List ℕ) → rest ≡ segment ∷ behind → child nodes at segment ≡ None → looked_up (child nodes) at rest ≡ 1
looked_none nodes at rest behind segment cut none = rw (cut, none) refl

pub looked_some : (nodes : List Node) (at next : ℕ) (rest behind : List (List ℕ)) (segment : List ℕ) → rest ≡ segment ∷ behind → child nodes at segment ≡ Some next → looked_up (child nodes) at rest ≡ 1 + looked_up (child nodes) next behind
looked_some nodes at next rest behind segment cut some = rw (cut, some) refl

pub looked_least : (child : ℕ → List ℕ → Option ℕ) (at : ℕ) (rest behind : List (List ℕ)) (segment : List ℕ) → rest ≡ segment ∷ behind → 1 ≤ looked_up child at rest
looked_least child at rest behind segment cut = rw cut (omega arith)

-- At most as many segments are looked up as there are.
pub looked_most : (child : ℕ → List ℕ → Option ℕ) (at : ℕ) (segments : List (List ℕ)) → looked_up child at segments ≤ length segments
looked_most child at [] = omega arith
looked_most child at (s ∷ ss) = elim (cases_Option (child at s)) [ inl e ↦ rw e (omega arith) | inr e ↦ rw e.1 (omega (arith, looked_most child e.0 ss)) ]

-- ---- the node that segments lead to keeps a place
tree_same : (child other : ℕ → List ℕ → Option ℕ) (count others : ℕ) (paths : ℕ → List (List ℕ)) → child ≡ other → count ≡ others → IsTree other others paths → IsTree child count paths
tree_same child other count others paths e f tree = rw (e, f) tree

pub adds : (old mid : List Node) (segments : List (List ℕ)) (at place : ℕ) (was node : Node) (f g : Node → Option ℕ) → Enters old mid segments at
    → ((others : List (List ℕ)) → kept (child mid) (read f mid) others ≡ kept (child old) (read f old) others)
    → ((others : List (List ℕ)) → kept (child mid) (read g mid) others ≡ kept (child old) (read g old) others)
    → was ≡ get_or mid at was → node.children ≡ was.children → f node ≡ option_or (f was) (Some place) → g node ≡ g was
    → Adds old (slice_set mid at node) segments place (read f) (read g)
adds old mid segments at place was node f g enters f_stays g_stays is children gains stays = record {
  trie = (enters.trie.0, tree_same (child (slice_set mid at node)) (child mid) _ (length mid) enters.trie.0 same (length-set mid at node) enters.trie.1);
  here =
      ap (λ c. kept c (read f (slice_set mid at node)) segments) same
      ∙ (kept_here (child mid) (read f (slice_set mid at node)) at segments enters.here
      ∙ (read-set_same f mid at node enters.within
      ∙ (gains ∙ ap (λ o. option_or o (Some place)) (sym (kept_here (child mid) (read f mid) at segments enters.here ∙ rw (slice_get_read mid (length mid) at was refl enters.within is) refl) ∙ f_stays segments))));
  others = λ others apart.
      ap (λ c. kept c (read f (slice_set mid at node)) others) same
      ∙ (kept_others (child mid) (read f mid) (read f (slice_set mid at node)) (length mid) enters.trie.0 enters.trie.1 at segments enters.here (λ other away. read-set_other f mid at other node away) others apart ∙ f_stays others);
  stays = λ others.
      ap (λ c. kept c (read g (slice_set mid at node)) others) same
      ∙ (ap (λ (places : ℕ → Option ℕ). kept (child mid) places others) (λ i from. read-set_kept g mid at from was node enters.within is stays i) ∙ g_stays others);
}
  where
    same : child (slice_set mid at node) ≡ child mid
    same = λ i from name. read-set_kept (λ n. get_by_text n.children name) mid at from was node enters.within is (ap (λ cs. get_by_text cs name) children) i
