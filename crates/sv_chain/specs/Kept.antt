-- The cached chains, each found by its path, its servlet and its kind.
use Rattle.std.specs.Prelude.{◌≡◌, ℕ, ◌+◌, ◌≤◌, ◌&&◌, List, length, Option, Some, None, IfSome, if◌then◌else◌, ◌⊎◌}
use Rattle.std.specs.BTreeMap.{btree_map_len, get_by_text}
use Rattle.std.specs.Option.{option_and_then}
use Rattle.std.specs.Str.{bytes_eq}
use Rattle.sv_chain.specs.FilterChain.{filter_chain, is_same_kind}
use Rattle.sv_chain.specs.declared.by_path.ByPath.{ByPath}
use Rattle.sv_chain.specs.declared.chain_cache.KeptChains.{KeptChains}
use Rattle.sv_chain.specs.declared.chain_cache.TheConstants.{MAX_CACHED_KEY_BYTES, MAX_CACHED_CHAINS}
use Rattle.sv_descriptor.specs.declared.web_app.WebApp.{WebApp}
use Rattle.sv_mapping.specs.declared.kind.Kind.{Kind}
use Rattle.sv_mapping.specs.declared.kind.Kind.TheVariants.{Request, Forward, Include, Error}

-- The chain that is cached for the path, if it is for this servlet.
abbrev pub found_in : ByPath → List ℕ → List ℕ → Option (List ℕ)
found_in kept path servlet = option_and_then (λ one. if bytes_eq one.servlet servlet then Some one.chain else None) (get_by_text kept.chains path)

-- The cached chains of the kind.
abbrev pub of_kind : KeptChains → Kind → ByPath
of_kind kept Request = kept.request
of_kind kept Forward = kept.forward
of_kind kept Include = kept.include
of_kind kept Error = kept.error

-- The chain that is cached for the path, the servlet and the kind.
abbrev pub found : KeptChains → List ℕ → List ℕ → Kind → Option (List ℕ)
found kept path servlet kind = found_in (of_kind kept kind) path servlet

-- The number of cached chains.
abbrev pub count : KeptChains → ℕ
count kept = btree_map_len kept.request.chains + btree_map_len kept.forward.chains + btree_map_len kept.include.chains + btree_map_len kept.error.chains

-- The result of a lookup after this chain has replaced the one of its path and its kind.
abbrev pub found_after : KeptChains → List ℕ → List ℕ → Kind → List ℕ → List ℕ → List ℕ → Kind → Option (List ℕ)
found_after kept path servlet kind chain other name sort =
    if is_same_kind kind sort && bytes_eq path other
    then (if bytes_eq servlet name then Some chain else None)
    else found kept other name sort

-- The chain was cached before, or is this one, found by its own path, servlet and kind.
abbrev pub IsKeptOrThis : KeptChains → List ℕ → List ℕ → Kind → List ℕ → List ℕ → List ℕ → Kind → List ℕ → Type 0
IsKeptOrThis before path servlet kind chain other name sort one =
    (found before other name sort ≡ Some one) ⊎ ((other ≡ path) × (name ≡ servlet) × (sort ≡ kind) × (one ≡ chain))

-- Each cached chain is that of its path, its servlet and its kind, and these texts are within the limit.
abbrev pub AreChains : WebApp → KeptChains → Type 0
AreChains app kept = (path servlet : List ℕ) (kind : Kind) → IfSome (found kept path servlet kind)
    (λ chain. (chain ≡ filter_chain app path servlet kind) × (length path + length servlet ≤ MAX_CACHED_KEY_BYTES))

-- The number of cached chains is within the limit, and they are correct.
abbrev pub IsKeptOf : WebApp → KeptChains → Type 0
IsKeptOf app kept = (count kept ≤ MAX_CACHED_CHAINS) × AreChains app kept
