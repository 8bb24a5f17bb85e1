-- What the program's generic types are known by.
use Rattle.std.specs.Prelude.{codes}
use Rattle.scale_info_identities.specs.TypeIds.{Term}
use Rattle.scale_info_type_ids.specs.StandardTerms.{applied}

-- the term of `Account<T>`
abbrev pub account_term : Term → Term
account_term t = applied (codes "example_runtime::pallets::accounts::Account") t

-- the term of `Call<T>`
abbrev pub call_term : Term → Term
call_term t = applied (codes "example_runtime::pallets::accounts::Call") t

-- the term of `Event<T>`
abbrev pub event_term : Term → Term
event_term t = applied (codes "example_runtime::pallets::accounts::Event") t

-- the term of `Layer<T>`
abbrev pub layer_term : Term → Term
layer_term t = applied (codes "example_runtime::pallets::accounts::Layer") t
