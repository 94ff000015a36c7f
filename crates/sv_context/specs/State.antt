-- A deployed context as contracts see it: its deployment, its current constraints, its components with their states,
-- and its sessions (Jakarta Servlet 6.0, chapters 2, 3 and 7).
use Rattle.std.specs.Prelude.{◌≡◌, List, length}
use Rattle.std.specs.List.{filter}
use Rattle.sv_component.specs.World.{World}
use Rattle.sv_component.specs.declared.components.Named.{Named}
use Rattle.sv_component.specs.declared.standing.Standing.{Standing}
use Rattle.sv_journal.specs.Journal.{JournalState}
use Rattle.sv_live.specs.Standing.{LiveState, is_in_service}
use Rattle.sv_journal.specs.declared.calls.Place.{Place}
use Rattle.sv_policy.specs.Compiled as policies
use Rattle.sv_realm.specs.declared.account.User.{User}
use Rattle.sv_session.specs.Store.{Store}
use Rattle.sv_tree.specs.SiteOfDescriptor.{Content}

pub record ContextState (S F L : Type 0) : Type 0 where
  -- The context's path, its descriptor and its files.
  pub content : Content
  -- The current constraints.
  pub policy : policies.Standing
  pub users : List User
  -- The components, in the order of the descriptor.
  pub servlets : List (Named S)
  pub filters : List (Named F)
  pub listeners : List L
  -- The components that were initialized, in order, and the states of the servlets.
  pub initialised : List Place
  pub standings : List Standing
  pub store : Store

-- A context, made from its parts.
abbrev pub context_of : {S F L : Type 0} → Content → policies.Standing → List User → LiveState S F L → Store → ContextState S F L
context_of its_content its_policy its_users live its_store = record {
  content = its_content;
  policy = its_policy;
  users = its_users;
  servlets = live.parts.servlets.items;
  filters = live.parts.filters.items;
  listeners = live.parts.listeners.items;
  initialised = live.initialised;
  standings = live.standings;
  store = its_store;
}

-- The components with the journal, as runs see them.
abbrev pub world_of : {S F L : Type 0} → ContextState S F L → JournalState → World S F L
world_of context its_journal = record {
  context = context.content.context_path;
  servlets = context.servlets;
  filters = context.filters;
  listeners = context.listeners;
  journal = its_journal;
}

-- The components that were initialized and are not gone, in the order of their initialization.
abbrev pub in_service : {S F L : Type 0} → ContextState S F L → List Place
in_service context = filter (is_in_service context.standings) context.initialised

-- The deployment and the current constraints stay, no component is added or removed, and the initialized components
-- stay.
pub record IsSameDeployment {S F L : Type 0} (before after : ContextState S F L) : Type 0 where
  pub content : after.content ≡ before.content
  pub policy : after.policy ≡ before.policy
  pub users : after.users ≡ before.users
  pub servlets : length after.servlets ≡ length before.servlets
  pub filters : length after.filters ≡ length before.filters
  pub listeners : length after.listeners ≡ length before.listeners
  pub initialised : after.initialised ≡ before.initialised

-- The descriptor declares as many components of each kind.
pub record AreCounted {S F L : Type 0} (content : Content) (live : LiveState S F L) : Type 0 where
  pub servlets : length live.parts.servlets.items ≡ length content.app.servlets
  pub filters : length live.parts.filters.items ≡ length content.app.filters
  pub listeners : length live.parts.listeners.items ≡ length content.app.listeners

-- The started components are those of the content: they have its path, and it declares as many.
pub record AreComponentsOf {S F L : Type 0} (content : Content) (live : LiveState S F L) : Type 0 where
  pub context : live.context ≡ content.context_path
  pub counts : AreCounted content live
