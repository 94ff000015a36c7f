-- The components fit their declarations.
use Rattle.std.proofs.Common.{◌≡◌, ℕ, ◌+◌, List, [], ◌∷◌, length, map, Option, Some, None, Result, Ok, Err, refl, ap}
use Rattle.std.specs.Option.{ok_or}
use Rattle.sv_text.specs.Steps.{◌>>=◌}
use Rattle.sv_component.specs.declared.components.Named.{Named}
use Rattle.sv_descriptor.specs.declared.filter.FilterEntry.{FilterEntry}
use Rattle.sv_descriptor.specs.declared.listener.ListenerEntry.{ListenerEntry}
use Rattle.sv_descriptor.specs.declared.servlet.ServletEntry.{ServletEntry}
use Rattle.sv_deployments.specs.declared.class_fault.ClassFault.{ClassFault}
use Rattle.sv_deployments.specs.declared.class_fault.ClassFault.TheVariants.{UnknownClass}
use Rattle.sv_deployments.specs.declared.component_place.ComponentPlace.TheVariants as at
use Rattle.sv_deployments.specs.FilterClasses.{new_filter}
use Rattle.sv_deployments.specs.ServletClasses.{new_servlet}
use Rattle.sv_deployments.specs.Parts.{Made, each_from, filter_of, listener_of, servlet_of}
use Rattle.sv_deployments.specs.declared.program_filter.ProgramFilter.{ProgramFilter}
use Rattle.sv_deployments.specs.declared.program_listener.ProgramListener.{ProgramListener}
use Rattle.sv_deployments.specs.declared.program_servlet.ProgramServlet.{ProgramServlet}

bind-Ok : {A B C E : Type 0} (first : Result A E) (next : A → Result B E) (b : B) → (first >>= next) ≡ Ok b → ((a : A) → first ≡ Ok a → next a ≡ Ok b → C) → C
bind-Ok (Ok a) next b h k = k a refl h
bind-Ok (Err f) next b h k = cc

-- a property that each step keeps is kept for the list
kept : {A B C : Type 0} (step : ℕ → A → Made B) (had : A → C) (has : B → C) → ((place : ℕ) (a : A) (b : B) → step place a ≡ Ok b → has b ≡ had a)
    → (place : ℕ) (items : List A) (made : List B) → each_from step place items ≡ Ok made → map has made ≡ map had items
kept step had has one place [] made h = let same : made ≡ [] = cc in ap (map has) same
kept step had has one place (a ∷ rest) made h =
    bind-Ok (step place a) _ made h (λ b is_b more.
    bind-Ok (each_from step (place + 1) rest) _ made more (λ bs are_bs last.
    let same : made ≡ b ∷ bs = cc in
    let first : has b ≡ had a = one place a b is_b in
    let others : map has bs ≡ map had rest = kept step had has one (place + 1) rest bs are_bs in
    rw (same, first, others) refl))

-- one component is made for each item
as_many : {A B : Type 0} (step : ℕ → A → Made B) (place : ℕ) (items : List A) (made : List B) → each_from step place items ≡ Ok made → length made ≡ length items
as_many step place [] made h = let same : made ≡ [] = cc in ap length same
as_many step place (a ∷ rest) made h =
    bind-Ok (step place a) _ made h (λ b is_b more.
    bind-Ok (each_from step (place + 1) rest) _ made more (λ bs are_bs last.
    let same : made ≡ b ∷ bs = cc in
    let others : length bs ≡ length rest = as_many step (place + 1) rest bs are_bs in
    rw (same, others) refl))

named : {C : Type 0} (found : Option C) (class : ClassFault) (name : List ℕ) (made : Named C)
    → (ok_or found class >>= λ component. Ok (record { name = name; component = component })) ≡ Ok made → made.name ≡ name
named (Some component) class name made h = cc
named None class name made h = cc

pub servlets_fit : (declared read : List ServletEntry) (made kept_ones : List (Named ProgramServlet)) → read ≡ declared → each_from servlet_of 0 read ≡ Ok made → kept_ones ≡ made
    → map (λ servlet. servlet.name) kept_ones ≡ map (λ entry. entry.servlet_name) declared
servlets_fit declared read made kept_ones all is_made same =
    rw (same, ← all) (kept servlet_of (λ entry. entry.servlet_name) (λ servlet. servlet.name) (λ place entry one h. named (new_servlet entry.servlet_class) (UnknownClass entry.servlet_class (at.Servlet place)) entry.servlet_name one h) 0 read made is_made)

pub filters_fit : (declared read : List FilterEntry) (made kept_ones : List (Named ProgramFilter)) → read ≡ declared → each_from filter_of 0 read ≡ Ok made → kept_ones ≡ made
    → map (λ filter. filter.name) kept_ones ≡ map (λ entry. entry.filter_name) declared
filters_fit declared read made kept_ones all is_made same =
    rw (same, ← all) (kept filter_of (λ entry. entry.filter_name) (λ filter. filter.name) (λ place entry one h. named (new_filter entry.filter_class) (UnknownClass entry.filter_class (at.Filter place)) entry.filter_name one h) 0 read made is_made)

pub listeners_fit : (declared read : List ListenerEntry) (made kept_ones : List ProgramListener) → read ≡ declared → each_from listener_of 0 read ≡ Ok made → kept_ones ≡ made
    → length kept_ones ≡ length declared
listeners_fit declared read made kept_ones all is_made same = rw (same, ← all) (as_many listener_of 0 read made is_made)
