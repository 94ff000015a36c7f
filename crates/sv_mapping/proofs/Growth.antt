-- The places in a trie while nodes are added to it.
use Rattle.std.proofs.Common.{◌≡◌, ℕ, ◌<◌, ◌≤◌, cond, List, [], ◌∷◌, ◌++◌, eqb, length, refl, sym, ◌∙◌, ap, arith, append_assoc, Option, Some, None}
use Rattle.std.specs.Option.{option_and_then}
use Rattle.std.proofs.lemmas.Option.{slice_get_past}
use Rattle.sv_mapping.specs.declared.trie_node.Node.{Node}
use Rattle.sv_mapping.specs.Trie.{Enters, Grows, child, exact, prefix, reached}
use Rattle.sv_mapping.proofs.Trees.{Joins, here, kept_stays, reached-further, reached_stays, tree_grows}

-- The segments `done` lead to `at`, and the rest must still be entered.
pub record Entering (old new : List Node) (segments rest : List (List ℕ)) (at : ℕ) : Type 0 where
  pub done : List (List ℕ)
  pub whole : done ++ rest ≡ segments
  pub enters : Enters old new done at

-- The child exists.
pub entering_child : (old new : List Node) (segments rest behind : List (List ℕ)) (segment : List ℕ) (at next : ℕ) → Entering old new segments rest at → rest ≡ segment ∷ behind → child new at segment ≡ Some next → Entering old new segments behind next
entering_child old new segments rest behind segment at next e cut found = record {
  done = e.done ++ segment ∷ [];
  whole = append_assoc e.done (segment ∷ []) behind ∙ (ap (λ r. e.done ++ r) (sym cut) ∙ e.whole);
  enters = record {
    trie = e.enters.trie;
    within = (e.enters.trie.1.edges at next segment found).0;
    here = reached-further (child new) 0 e.done segment ∙ rw e.enters.here found;
    exacts = e.enters.exacts;
    prefixes = e.enters.prefixes;
  };
}

past_child : (nodes : List Node) (at : ℕ) (name : List ℕ) → length nodes ≤ at → child nodes at name ≡ None
past_child nodes at name past = rw (slice_get_past nodes at past) refl

past_exact : (nodes : List Node) (at : ℕ) → length nodes ≤ at → exact nodes at ≡ None
past_exact nodes at past = rw (slice_get_past nodes at past) refl

past_prefix : (nodes : List Node) (at : ℕ) → length nodes ≤ at → prefix nodes at ≡ None
past_prefix nodes at past = rw (slice_get_past nodes at past) refl

joins_from : (old new : List Node) (at : ℕ) (segment : List ℕ) (next : ℕ) → Grows old new at segment next → child old at segment ≡ None → at < length old → Joins (child old) (child new) at segment next
joins_from old new at segment next grows free within = record {
  children = grows.children;
  free = free;
  leaf = λ name. past_child old next name (omega (arith, grows.is_next));
  apart = omega (arith, grows.is_next);
}

-- The child is added.
pub entering_new : (old new newer : List Node) (segments rest behind : List (List ℕ)) (segment : List ℕ) (at next : ℕ) → Entering old new segments rest at → rest ≡ segment ∷ behind → child new at segment ≡ None → Grows new newer at segment next → Entering old newer segments behind next
entering_new old new newer segments rest behind segment at next e cut free grows = record {
  done = e.done ++ segment ∷ [];
  whole = append_assoc e.done (segment ∷ []) behind ∙ (ap (λ r. e.done ++ r) (sym cut) ∙ e.whole);
  enters = record {
    trie = (
      λ node. cond (eqb node next) (e.enters.trie.0 at ++ segment ∷ []) (e.enters.trie.0 node),
      rw grows.count (tree_grows (child new) (child newer) at segment next joins (length new) e.enters.trie.0 (sym grows.is_next) e.enters.trie.1),
    );
    within = omega (arith, grows.is_next, grows.count);
    here = reached-further (child newer) 0 e.done segment ∙ rw (reached_stays (child new) (child newer) at segment next joins 0 at e.done e.enters.here) made;
    exacts = λ others.
        ap (λ (places : ℕ → Option ℕ). option_and_then places (reached (child newer) 0 others)) (λ i node. grows.exacts node i)
        ∙ (kept_stays (child new) (child newer) at segment next joins (exact new) (past_exact new next (omega (arith, grows.is_next))) 0 others ∙ e.enters.exacts others);
    prefixes = λ others.
        ap (λ (places : ℕ → Option ℕ). option_and_then places (reached (child newer) 0 others)) (λ i node. grows.prefixes node i)
        ∙ (kept_stays (child new) (child newer) at segment next joins (prefix new) (past_prefix new next (omega (arith, grows.is_next))) 0 others ∙ e.enters.prefixes others);
  };
}
  where
    joins : Joins (child new) (child newer) at segment next
    joins = joins_from new newer at segment next grows free e.enters.within

    made : child newer at segment ≡ Some next
    made = here (child new) (child newer) at segment next joins
