-- The results of lookups in compiled patterns (Jakarta Servlet 6.0, section 12.1).
use Rattle.std.specs.Prelude.{◌≡◌, ℕ, List, ◌++◌, codes, IsTrue}
use Rattle.std.specs.HashMap.{get_by_text}
use Rattle.std.specs.List.{list_all}
use Rattle.sv_mapping.specs.Pattern.{is_pattern}
use Rattle.sv_mapping.specs.declared.pattern_index.Index.{Index}
use Rattle.sv_mapping.specs.Places.{exact_place, place_of}
use Rattle.sv_mapping.specs.Segments.{is_rooted, segments_of}
use Rattle.sv_mapping.specs.Trie.{IsTrie, child, exact, prefix, kept}

-- All texts are patterns, and the trie, the extensions and the default hold their least places.
pub record Finds (index : Index) (patterns : List (List ℕ)) : Type 0 where
  pub accepted : IsTrue (list_all is_pattern patterns)
  pub trie : IsTrie index.trie.nodes.items
  pub exacts : (path : List ℕ) → IsTrue (is_rooted path) → kept (child index.trie.nodes.items) (exact index.trie.nodes.items) (segments_of path) ≡ exact_place patterns path
  pub prefixes : (path : List ℕ) → IsTrue (is_rooted path) → kept (child index.trie.nodes.items) (prefix index.trie.nodes.items) (segments_of path) ≡ place_of patterns (path ++ codes "/*")
  pub extensions : (wanted : List ℕ) → get_by_text index.extensions wanted ≡ place_of patterns (codes "*." ++ wanted)
  pub default : index.default ≡ place_of patterns (codes "/")
