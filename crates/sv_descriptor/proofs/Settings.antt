-- A server file and a users file that were read are well-formed.
use Rattle.std.proofs.Common.{◌≡◌, ℕ, ◌*◌, Bool, true, false, codes, List, [], ◌∷◌, length, Ok, refl, subst, arith}
use Rattle.std.specs.Prelude.{if◌then◌else◌}
use Rattle.std.specs.List.{All}
use Rattle.toml.specs.Data.{Members}
use Rattle.sv_realm.specs.declared.account.User.{User}
use Rattle.sv_descriptor.specs.Fault.{refuse}
use Rattle.sv_descriptor.specs.ListOf.{list_of_texts, list_of_tables}
use Rattle.sv_descriptor.specs.Names.{Differ, distinct}
use Rattle.sv_descriptor.specs.Table.{only_keys, required, optional}
use Rattle.sv_descriptor.specs.Value.{any_text, hex_text, name, number_between, is_table, table_of, text_of, whole_of}
use Rattle.sv_descriptor.specs.declared.fault.FaultCode.TheVariants.{BadValue}
use Rattle.sv_descriptor.specs.declared.limits.TheConstants.{MAX_LIST_ITEMS, NO_LIMIT}
use Rattle.sv_descriptor.proofs.Differing.{Differ-repeats}
use Rattle.sv_descriptor.proofs.HexTexts.{hex_text-Ok}
use Rattle.sv_descriptor.proofs.Yields.{IsListOf, bind-Ok, distinct-Ok, text_of-yields, table_of-yields, list_of-yields, required-Ok}
use Rattle.sv_descriptor.specs.ContextPath.{context_path, is_context_path}
use Rattle.sv_descriptor.specs.Server.{IsWellFormedServer, context, context_paths, server}
use Rattle.sv_descriptor.specs.Users.{AreWellFormedUsers, user, user_names, users}
use Rattle.sv_descriptor.specs.declared.limits.TheConstants.{DIGEST_BYTES, DIGEST_DIGITS, MAX_PORT, MAX_SALT_DIGITS, SEED_BYTES, SEED_DIGITS}
use Rattle.sv_descriptor.specs.declared.server.ContextEntry.{ContextEntry}
use Rattle.sv_descriptor.specs.declared.server.Server.{Server}

-- A key whose bytes are written with a fixed number of digits.
bytes-Ok : (digits : ℕ) (key : List ℕ) (members : Members) (bytes : List ℕ) → required (text_of (hex_text digits digits)) key members ≡ Ok bytes → digits ≡ 2 * length bytes
bytes-Ok digits key members bytes e =
    required-Ok (λ b. digits ≡ 2 * length b) (text_of (hex_text digits digits))
    (text_of-yields _ (hex_text digits digits) (hex_text-Ok digits))
    key members bytes e

user-Ok : (members : Members) (u : User) → user members ≡ Ok u → length u.digest ≡ DIGEST_BYTES
user-Ok members u e =
    bind-Ok (only_keys (codes "name" ∷ codes "salt" ∷ codes "digest" ∷ codes "roles" ∷ []) [] members) _ _ e (λ _ _ e1.
    bind-Ok (required (text_of name) (codes "name") members) _ _ e1 (λ _ _ e2.
    bind-Ok (required (text_of (hex_text 0 MAX_SALT_DIGITS)) (codes "salt") members) _ _ e2 (λ _ _ e3.
    bind-Ok (required (text_of (hex_text DIGEST_DIGITS DIGEST_DIGITS)) (codes "digest") members) _ _ e3 (λ digest read e4.
    bind-Ok (required (list_of_texts 0 MAX_LIST_ITEMS name) (codes "roles") members) _ _ e4 (λ _ _ e5.
    let same : digest ≡ u.digest = cc in
    let n = bytes-Ok DIGEST_DIGITS (codes "digest") members digest read in
    subst (λ b. length b ≡ DIGEST_BYTES) same (omega arith))))))

pub users-Ok : (members : Members) (found : List User) → users members ≡ Ok found → AreWellFormedUsers found
users-Ok members found e =
    bind-Ok (only_keys (codes "user" ∷ []) [] members) _ _ e (λ _ _ e1.
    bind-Ok (required (list_of_tables 0 MAX_LIST_ITEMS user) (codes "user") members) _ _ e1 (λ listed read e2.
    bind-Ok (distinct (codes "user") (codes "name") (user_names listed)) _ _ e2 (λ u unique e3.
    let same : listed ≡ found = cc in
    let all = required-Ok (IsListOf (λ user. length user.digest ≡ DIGEST_BYTES) MAX_LIST_ITEMS) (list_of_tables 0 MAX_LIST_ITEMS user)
    (list_of-yields _ 0 MAX_LIST_ITEMS is_table (table_of user) (table_of-yields _ user user-Ok)) (codes "user") members listed read in
    subst AreWellFormedUsers same (record {
      few = all.short;
      digests_are_whole = all.each;
      names_differ = Differ-repeats (user_names listed) (distinct-Ok (codes "user") (codes "name") (user_names listed) u unique);
    }))))

context-Ok : (members : Members) (c : ContextEntry) → context members ≡ Ok c → is_context_path c.path ≡ true
context-Ok members c e =
    bind-Ok (only_keys (codes "path" ∷ codes "descriptor" ∷ codes "files" ∷ codes "users" ∷ []) [] members) _ _ e (λ _ _ e1.
    bind-Ok (required (text_of context_path) (codes "path") members) _ _ e1 (λ path read e2.
    bind-Ok (required (text_of any_text) (codes "descriptor") members) _ _ e2 (λ _ _ e3.
    bind-Ok (required (text_of any_text) (codes "files") members) _ _ e3 (λ _ _ e4.
    bind-Ok (optional (text_of any_text) (codes "users") members) _ _ e4 (λ _ _ e5.
    let same : path ≡ c.path = cc in
    subst (λ t. is_context_path t ≡ true) same
    (required-Ok (λ t. is_context_path t ≡ true) (text_of context_path) (text_of-yields _ context_path accepted) (codes "path") members path read))))))
  where
    holds : (b : Bool) (key text a : List ℕ) → is_context_path text ≡ b → (if b then Ok text else refuse BadValue key) ≡ Ok a → is_context_path a ≡ true
    holds true key text a is h = let same : text ≡ a = cc in subst (λ t. is_context_path t ≡ true) same is
    holds false key text a is h = cc

    accepted : (key text a : List ℕ) → context_path key text ≡ Ok a → is_context_path a ≡ true
    accepted key text a h = holds (is_context_path text) key text a refl h

pub server-Ok : (members : Members) (s : Server) → server members ≡ Ok s → IsWellFormedServer s
server-Ok members s e =
    bind-Ok (only_keys (codes "port" ∷ codes "seed" ∷ codes "context" ∷ []) [] members) _ _ e (λ _ _ e1.
    bind-Ok (required (whole_of (number_between 0 MAX_PORT)) (codes "port") members) _ _ e1 (λ port _ e2.
    bind-Ok (required (text_of (hex_text SEED_DIGITS SEED_DIGITS)) (codes "seed") members) _ _ e2 (λ seed seed_read e3.
    bind-Ok (required (list_of_tables 0 NO_LIMIT context) (codes "context") members) _ _ e3 (λ contexts contexts_read e4.
    bind-Ok (distinct (codes "context") (codes "path") (context_paths contexts)) _ _ e4 (λ u unique e5.
    let same_seed : seed ≡ s.seed = cc in
    let same_contexts : contexts ≡ s.contexts = cc in
    let n = bytes-Ok SEED_DIGITS (codes "seed") members seed seed_read in
    let all = required-Ok (IsListOf (λ context. is_context_path context.path ≡ true) NO_LIMIT) (list_of_tables 0 NO_LIMIT context)
    (list_of-yields _ 0 NO_LIMIT is_table (table_of context) (table_of-yields _ context context-Ok)) (codes "context") members contexts contexts_read in
    record {
      seed_is_whole = subst (λ b. length b ≡ SEED_BYTES) same_seed (omega arith);
      paths_are_context_paths = subst (All (λ context. is_context_path context.path ≡ true)) same_contexts all.each;
      paths_differ = subst (λ l. Differ (context_paths l)) same_contexts (Differ-repeats (context_paths contexts) (distinct-Ok (codes "context") (codes "path") (context_paths contexts) u unique));
    })))))
