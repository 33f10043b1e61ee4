use Rattle.std.proofs.Common.{◌∙◌, ap, subst, sym}
use Rattle.std.specs.List.{list_all}
use Rattle.bdb_base.specs.Bases.{is_user}
use Rattle.bdb_base.specs.Queries.{user_numbers}
use Rattle.bdb_base.specs.declared.kinds.Catalog.{Catalog}
use Rattle.bdb_keep.specs.Tables.{Tables}
use Rattle.bdb_worlds.specs.Holding.{HoldSome}
use Rattle.bdb_catalog.specs.Bases.{StoresSome}
use Rattle.bdb_catalog.specs.Opening.{IsPartOf}
use Rattle.bdb_catalog.proofs.OpeningLemmas.{some_grammar}
use Rattle.bdb_session_tests.proofs.tests.stored.push_led.Goals as goal

pub user_numbers-requires : goal.user_numbers-requires
user_numbers-requires g c = record { base = record { base = c.args.base.now; stores = c.requires.stored } }

pub worlds_in_order-requires-clause-base : goal.worlds_in_order-requires-clause-base
worlds_in_order-requires-clause-base g c = subst StoresSome (sym c.in_ok-users.ensures.read.kept) (record { base = c.args.base.now; stores = c.requires.stored })

pub worlds_in_order-requires-clause-users : goal.worlds_in_order-requires-clause-users
worlds_in_order-requires-clause-users g c =
    subst (IsPartOf (λ b. user_numbers b.catalog.users) (g.K.Keeper.seen c.user_numbers.new.keeper).kept) (sym c.deref.ensures.value)
    (subst (λ t. IsPartOf (λ b. user_numbers b.catalog.users) t c.in_ok-users.users.items) (sym c.in_ok-users.ensures.read.kept) c.in_ok-users.ensures.numbers)

pub resolve-requires-clause-grammar : goal.resolve-requires-clause-grammar
resolve-requires-clause-grammar g c =
    let back = c.in_ok-worlds.ensures.read.kept ∙ c.in_ok-users.ensures.read.kept in
    some_grammar (g.K.Keeper.seen c.worlds_in_order.new.keeper).kept (subst StoresSome (sym back) (record { base = c.args.base.now; stores = c.requires.stored }))

pub resolve-requires-clause-states : goal.resolve-requires-clause-states
resolve-requires-clause-states g c =
    let back = c.in_ok-worlds.ensures.read.kept ∙ c.in_ok-users.ensures.read.kept in
    let own = ap (λ (k : Catalog). list_all (is_user k.users) c.args.path.now) c.requires.users ∙ c.requires.own in
    subst (λ (t : Tables). HoldSome t c.args.path.now) (sym back) (record {
      worlds = record { users = is_user c.args.base.now.catalog.users; names = c.requires.stored.stored.names };
      states = c.requires.stored.stored.stored.states;
      own = own;
    })
