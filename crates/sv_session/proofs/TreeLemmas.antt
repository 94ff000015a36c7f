-- The entries as a tree: which stay settled after a change, and the first record at the root.
use Rattle.std.proofs.Common.{◌≡◌, ◌≢◌, ℕ, zero, suc, ◌+◌, ◌-◌, ◌*◌, ◌/◌, ◌<◌, ◌≤◌, false, eqb, inl, inr, ◌⊎◌, List, [], ◌∷◌, ◌++◌, length, map, set, get_or, Option, Some, None, MatchOption, refl, sym, ◌∙◌, ap, subst, ltb, arith}
use Rattle.std.specs.List.{slice_get}
use Rattle.std.specs.Option.{option_and_then}
use Rattle.std.proofs.lemmas.Bool.{cases_Bool, eqb-true, eqb-false, ltb-true, ltb-false}
use Rattle.std.proofs.lemmas.List.{length-map, length-set}
use Rattle.std.proofs.lemmas.Option.{none-some, same_Some, slice_get_past, slice_get_within}
use Rattle.sv_session.specs.declared.due.Due.{Due}
use Rattle.sv_session.specs.declared.node.Node.{Node}
use Rattle.sv_session.specs.Order.{IsFirst, NoneWaits, Waits, is_before, sooner}
use Rattle.sv_session.specs.Tree.{IsSettled, least_at, least_below}
use Rattle.sv_session.proofs.ExpiryOrderLemmas.{Covers, covers_left, covers_right, from_sooner, not_itself}

-- ---- a change at an index
other_place : (nodes : List Node) (at k : ℕ) (node : Node) → k ≢ at → slice_get (set nodes at node) k ≡ slice_get nodes k
other_place [] at k node other = refl
other_place (x ∷ xs) zero zero node other = absurd (other refl)
other_place (x ∷ xs) zero (suc k) node other = refl
other_place (x ∷ xs) (suc at) zero node other = refl
other_place (x ∷ xs) (suc at) (suc k) node other = other_place xs at k node (λ same. other (ap suc same))

same_place : (nodes : List Node) (at : ℕ) (node : Node) → at < length nodes → slice_get (set nodes at node) at ≡ Some node
same_place [] at node within = absurd (omega (arith, within))
same_place (x ∷ xs) zero node within = refl
same_place (x ∷ xs) (suc at) node within = same_place xs at node (omega (arith, within))

least_kept : (nodes : List Node) (at k : ℕ) (node : Node) → k ≢ at → least_at (set nodes at node) k ≡ least_at nodes k
least_kept nodes at k node other = ap (option_and_then (λ (n : Node). n.least)) (other_place nodes at k node other)

below_kept : (nodes : List Node) (at k : ℕ) (node : Node) (own : Option Due) → 2 * k + 1 ≢ at → 2 * k + 2 ≢ at
    → least_below nodes own k ≡ least_below (set nodes at node) own k
below_kept nodes at k node own left right =
    rw (least_kept nodes at (2 * k + 1) node left, least_kept nodes at (2 * k + 2) node right) refl

settled_kept : (nodes : List Node) (at k : ℕ) (node : Node) → k ≢ at → 2 * k + 1 ≢ at → 2 * k + 2 ≢ at → IsSettled nodes k
    → IsSettled (set nodes at node) k
settled_kept nodes at k node other left right settled n is =
    settled n (sym (other_place nodes at k node other) ∙ is) ∙ below_kept nodes at k node n.own left right

settled_here : (nodes : List Node) (at : ℕ) (own least : Option Due) → at < length nodes → least ≡ least_below nodes own at
    → IsSettled (set nodes at (record { own = own; least = least })) at
settled_here nodes at own least within known n is =
    let node : Node = record { own = own; least = least } in
    let same : node ≡ n = same_Some node n (sym (same_place nodes at node within) ∙ is) in
    ap (λ (m : Node). m.least) (sym same) ∙ (known
    ∙ (below_kept nodes at at node own (λ e. omega (arith, e)) (λ e. omega (arith, e))
    ∙ ap (λ (m : Node). least_below (set nodes at node) m.own at) same))

module _ (nodes : List Node) (at : ℕ) (own least : Option Due) (within : at < length nodes) (known : least ≡ least_below nodes own at)
    (others : (k : ℕ) → k ≢ at → IsSettled nodes k) where
  abbrev node : Node
  node = record { own = own; least = least }

  by_place : (k : ℕ) → 2 * k + 1 ≢ at → 2 * k + 2 ≢ at → IsSettled (set nodes at node) k
  by_place k left right = elim (cases_Bool (eqb k at)) [
    | inl same ↦ let equal : at ≡ k = sym (eqb-true k at same) in subst (IsSettled (set nodes at node)) equal (settled_here nodes at own least within known)
    | inr apart ↦
        let other : k ≢ at = eqb-false k at apart in
        settled_kept nodes at k node other left right (others k other)
  ]

  pub settled_below : 0 < at → (k : ℕ) → k ≢ (at - 1) / 2 → IsSettled (set nodes at node) k
  settled_below above k other =
      by_place k (λ e. other (omega (arith, e))) (λ e. other (omega (arith, e)))

  pub settled_root : at ≤ 0 → (k : ℕ) → IsSettled (set nodes at node) k
  settled_root root k = by_place k (λ e. omega (arith, e, root)) (λ e. omega (arith, e, root))

pub within_below : (nodes : List Node) (at : ℕ) (node : Node) → at < length nodes → (at - 1) / 2 < length (set nodes at node)
within_below nodes at node within = omega (arith, within, length-set nodes at node)

-- ---- another record at an index
abbrev pub owns : List Node → List (Option Due)
owns nodes = map (λ (node : Node). node.own) nodes

pub owns_set : (nodes : List Node) (at : ℕ) (node : Node) → owns (set nodes at node) ≡ set (owns nodes) at node.own
owns_set [] at n = refl
owns_set (x ∷ xs) zero n = refl
owns_set (x ∷ xs) (suc at) n = ap (λ rest. x.own ∷ rest) (owns_set xs at n)

pub owns_same : (nodes : List Node) (at : ℕ) (d : Node) (least : Option Due) → at < length nodes
    → owns (set nodes at (record { own = (get_or nodes at d).own; least = least })) ≡ owns nodes
owns_same [] at d least within = refl
owns_same (x ∷ xs) zero d least within = refl
owns_same (x ∷ xs) (suc at) d least within = ap (λ rest. x.own ∷ rest) (owns_same xs at d least (omega (arith, within)))

least_same : (nodes : List Node) (at : ℕ) (own : Option Due) (node : Node) → node ≡ get_or nodes at node
    → (k : ℕ) → least_at (set nodes at (record { own = own; least = node.least })) k ≡ least_at nodes k
least_same [] at own n is k = refl
least_same (x ∷ xs) zero own n is zero = ap (λ (m : Node). m.least) is
least_same (x ∷ xs) zero own n is (suc k) = refl
least_same (x ∷ xs) (suc at) own n is zero = refl
least_same (x ∷ xs) (suc at) own n is (suc k) = least_same xs at own n is k

pub others_settled : (nodes : List Node) (at : ℕ) (own : Option Due) (node : Node) → node ≡ get_or nodes at node
    → ((k : ℕ) → IsSettled nodes k) → (k : ℕ) → k ≢ at → IsSettled (set nodes at (record { own = own; least = node.least })) k
others_settled nodes at own node is settled k other n there =
    rw (least_same nodes at own node is (2 * k + 1), least_same nodes at own node is (2 * k + 2))
    (settled k n (sym (other_place nodes at k (record { own = own; least = node.least }) other) ∙ there))

pub owns_length : (nodes others : List Node) → owns nodes ≡ owns others → length nodes ≡ length others
owns_length nodes others same =
    sym (length-map nodes (λ (node : Node). node.own)) ∙ (ap length same ∙ length-map others (λ (node : Node). node.own))

-- ---- one more entry
more_place : (nodes : List Node) (last : Node) (k : ℕ) (n : Node) → slice_get (nodes ++ last ∷ []) k ≡ Some n
    → (slice_get nodes k ≡ Some n) ⊎ ((last ≡ n) × (k ≡ length nodes))
more_place [] last zero n is = inr (same_Some last n is, refl)
more_place [] last (suc k) n is = absurd (none-some n is)
more_place (x ∷ xs) last zero n is = inl is
more_place (x ∷ xs) last (suc k) n is = elim (more_place xs last k n is) [
  | inl there ↦ inl there
  | inr new ↦ inr (new.0, ap suc new.1)
]

abbrev empty : Node
empty = record { own = None; least = None }

-- Appending an empty entry changes no first record.
least_more : (nodes : List Node) (k : ℕ) → least_at (nodes ++ empty ∷ []) k ≡ least_at nodes k
least_more [] zero = refl
least_more [] (suc k) = refl
least_more (x ∷ xs) zero = refl
least_more (x ∷ xs) (suc k) = least_more xs k

none_past : (nodes : List Node) (k : ℕ) → length nodes ≤ k → least_at nodes k ≡ None
none_past nodes k past = ap (option_and_then (λ (n : Node). n.least)) (slice_get_past nodes k past)

pub settled_more : (nodes : List Node) → ((k : ℕ) → IsSettled nodes k) → (k : ℕ) → IsSettled (nodes ++ empty ∷ []) k
settled_more nodes settled k node is = elim (more_place nodes empty k node is) [
  | inl there ↦ rw (least_more nodes (2 * k + 1), least_more nodes (2 * k + 2)) (settled k node there)
  | inr new ↦
      let left : least_at nodes (2 * k + 1) ≡ None = none_past nodes (2 * k + 1) (omega (arith, new.1)) in
      let right : least_at nodes (2 * k + 2) ≡ None = none_past nodes (2 * k + 2) (omega (arith, new.1)) in
      subst (λ (n : Node). n.least ≡ least_below (nodes ++ empty ∷ []) n.own k) new.0
      (rw (least_more nodes (2 * k + 1), least_more nodes (2 * k + 2), left, right) refl)
]

-- ---- the first record at the root
read_own : (nodes : List Node) (k : ℕ) (due : Due) → slice_get (owns nodes) k ≡ Some (Some due)
    → (node : Node) × (slice_get nodes k ≡ Some node) × (node.own ≡ Some due)
read_own [] k due is = absurd (none-some (Some due) is)
read_own (x ∷ xs) zero due is = (x, refl, same_Some x.own (Some due) is)
read_own (x ∷ xs) (suc k) due is = read_own xs k due is

own_read : (nodes : List Node) (k : ℕ) (node : Node) → slice_get nodes k ≡ Some node → slice_get (owns nodes) k ≡ Some node.own
own_read [] k node is = absurd (none-some node is)
own_read (x ∷ xs) zero node is = ap (λ (n : Node). Some n.own) (same_Some x node is)
own_read (x ∷ xs) (suc k) node is = own_read xs k node is

-- Each entry except the root has a parent.
above : (k : ℕ) → (up : ℕ) × ((suc k ≡ 2 * up + 1) ⊎ (suc k ≡ 2 * up + 2))
above zero = (0, inl refl)
above (suc k) =
    let before = above k in
    elim before.1 [
      | inl left ↦ (before.0, inr (omega (arith, left)))
      | inr right ↦ (before.0 + 1, inl (omega (arith, right)))
    ]

node_at : (nodes : List Node) (k : ℕ) → k < length nodes → (node : Node) × (slice_get nodes k ≡ Some node)
node_at [] k within = absurd (omega (arith, within))
node_at (x ∷ xs) zero within = (x, refl)
node_at (x ∷ xs) (suc k) within = node_at xs k (omega (arith, within))

itself : (due : Due) → is_before due due ≡ false
itself due = not_itself due.last_access due.number

module _ (nodes : List Node) (settled : (k : ℕ) → IsSettled nodes k) where
  known : (k : ℕ) (node : Node) → slice_get nodes k ≡ Some node → least_at nodes k ≡ least_below nodes node.own k
  known k node is = ap (option_and_then (λ (n : Node). n.least)) is ∙ settled k node is

  module _ (due : Due) where
    covers_own : (k : ℕ) (node : Node) → slice_get nodes k ≡ Some node → node.own ≡ Some due → Covers (least_at nodes k) due
    covers_own k node is own =
        let here : Covers node.own due = subst (λ o. Covers o due) (sym own) (itself due) in
        subst (λ o. Covers o due) (sym (known k node is))
        (covers_left (sooner node.own (least_at nodes (2 * k + 1))) (least_at nodes (2 * k + 2)) due
        (covers_left node.own (least_at nodes (2 * k + 1)) due here))

    covers_up : (up k : ℕ) → (k ≡ 2 * up + 1) ⊎ (k ≡ 2 * up + 2) → k < length nodes → Covers (least_at nodes k) due → Covers (least_at nodes up) due
    covers_up up k side within covers = elim side [
      | inl left ↦
          let at = node_at nodes up (omega (arith, left, within)) in
          let there : Covers (least_at nodes (2 * up + 1)) due = subst (λ m. Covers (least_at nodes m) due) left covers in
          subst (λ o. Covers o due) (sym (known up at.0 at.1))
          (covers_left (sooner at.0.own (least_at nodes (2 * up + 1))) (least_at nodes (2 * up + 2)) due
          (covers_right at.0.own (least_at nodes (2 * up + 1)) due there))
      | inr right ↦
          let at = node_at nodes up (omega (arith, right, within)) in
          let there : Covers (least_at nodes (2 * up + 2)) due = subst (λ m. Covers (least_at nodes m) due) right covers in
          subst (λ o. Covers o due) (sym (known up at.0 at.1))
          (covers_right (sooner at.0.own (least_at nodes (2 * up + 1))) (least_at nodes (2 * up + 2)) due there)
    ]

    covers_root : (room k : ℕ) → k ≤ room → k < length nodes → Covers (least_at nodes k) due → Covers (least_at nodes 0) due
    covers_root room zero small within covers = covers
    covers_root zero (suc k) small within covers = absurd (omega (arith, small))
    covers_root (suc room) (suc k) small within covers =
        let up = above k in
        let lower : up.0 ≤ k = elim up.1 [ inl left ↦ omega (arith, left) | inr right ↦ omega (arith, right) ] in
        covers_root room up.0 (omega (arith, lower, small)) (omega (arith, lower, within)) (covers_up up.0 (suc k) up.1 within covers)

    root_covers : Waits (owns nodes) due → Covers (least_at nodes 0) due
    root_covers waits =
        let at = read_own nodes waits.0 due waits.1 in
        covers_root waits.0 waits.0 (omega arith) (slice_get_within nodes waits.0 at.0 at.1) (covers_own waits.0 at.0 at.1 at.2)

    -- The first record of an entry is in its subtree.
    waits_below : (room k : ℕ) → length nodes ≤ k + room → least_at nodes k ≡ Some due → Waits (owns nodes) due
    waits_below zero k large is = absurd (none-some due (sym (none_past nodes k (omega (arith, large))) ∙ is))
    waits_below (suc room) k large is = elim (cases_Bool (ltb k (length nodes))) [
      | inr past ↦ absurd (none-some due (sym (none_past nodes k (ltb-false k (length nodes) past)) ∙ is))
      | inl within ↦
          let at = node_at nodes k (ltb-true k (length nodes) within) in
          let front = sooner at.0.own (least_at nodes (2 * k + 1)) in
          let made : sooner front (least_at nodes (2 * k + 2)) ≡ Some due = sym (known k at.0 at.1) ∙ is in
          elim (from_sooner front (least_at nodes (2 * k + 2)) due made) [
            | inr right ↦ waits_below room (2 * k + 2) (omega (arith, large)) right
            | inl first ↦ elim (from_sooner at.0.own (least_at nodes (2 * k + 1)) due first) [
              | inl own ↦ (k, own_read nodes k at.0 at.1 ∙ ap Some own)
              | inr left ↦ waits_below room (2 * k + 1) (omega (arith, large)) left
            ]
          ]
    ]

  by_root : (root : Option Due) → least_at nodes 0 ≡ root → MatchOption root (NoneWaits (owns nodes)) (IsFirst (owns nodes))
  by_root None is = λ due waits. subst (λ o. Covers o due) is (root_covers due waits)
  by_root (Some due) is =
      (waits_below due (length nodes) 0 (omega arith) is, λ other waits. subst (λ o. Covers o other) is (root_covers other waits))

  pub root_knows : (root : Option Due) → root ≡ least_at nodes 0 → MatchOption root (NoneWaits (owns nodes)) (IsFirst (owns nodes))
  root_knows root is = by_root root (sym is)
