use Rattle.std.proofs.Common.{◌≡◌, ◌∙◌, ℕ, true, false, List, Some, None, take, sym, ap, rules, arith}
use Rattle.std.specs.Option.{is_some}
use Rattle.std.specs.List.{list_any}
use Rattle.std.proofs.lemmas.Map.Text.{hash_map_updates_str}
use Rattle.indexmap.specs.IndexMap.{get_by}
use Rattle.bdb_base.specs.Same.{same_text}
use Rattle.bdb_bind.specs.Indexes.{or_place}
use Rattle.bdb_bind.specs.Scope.{item_place}
use Rattle.bdb_bind.proofs.AliasLemmas.{place_among, places_more}
use Rattle.bdb_bind.proofs.IndexLemmas.{added}
use Rattle.bdb_bind.proofs.Repeats.{alias_twice_at}
use Rattle.bdb_bind.proofs.query_items.QueryItems.of.Goals as goal

pub returns-in-Ok-Some-clause-checks : goal.returns-in-Ok-Some-clause-checks
returns-in-Ok-Some-clause-checks c = λ named.
    let item = c.index-items-at.result in
    let seen = take c.loop-at.at c.args.items.now in
    let alias : c.as_str.result.now ≡ item.alias = search rules in
    let told : item_place seen (Some c.as_str.result.now) ≡ Some c.in-Ok-Some.field-0-0 =
    sym (c.loop-at.invariant.1 c.as_str.result.now) ∙ sym c.in-Ok-Some.ensures.old ∙ c.in-Ok-Some.field-0-is in
    let known : list_any (λ e. same_text item.alias e.alias) seen ≡ true =
    place_among seen 0 item.alias ∙ ap (λ a. is_some (item_place seen (Some a))) (sym alias) ∙ ap is_some told in
    let step = alias_twice_at c.args.items.now c.loop-at.at item (omega arith) c.index-items-at.is in
    let refusal = c.repeated_alias.ensures named in
    let before = c.loop-at.invariant.0 in
    grind arith

pub loop-at-preserved : goal.loop-at-preserved
loop-at-preserved c =
    let item = c.index-items-at.result in
    let seen = take c.loop-at.at c.args.items.now in
    let alias : c.as_str.result.now ≡ item.alias = search rules in
    let none : get_by (λ k. same_text c.as_str.result.now k.now) c.loop-at.places ≡ None = sym c.in-Ok-None.ensures.old ∙ c.in-Ok-None.field-0-is in
    let told : item_place seen (Some c.as_str.result.now) ≡ None = sym (c.loop-at.invariant.1 c.as_str.result.now) ∙ none in
    let known : list_any (λ e. same_text item.alias e.alias) seen ≡ false =
    place_among seen 0 item.alias ∙ ap (λ a. is_some (item_place seen (Some a))) (sym alias) ∙ ap is_some told in
    let step = alias_twice_at c.args.items.now c.loop-at.at item (omega arith) c.index-items-at.is in
    let before = c.loop-at.invariant.0 in (
      (grind arith),
      (λ (q : List ℕ).
          added (λ ds. get_by (λ k. same_text ds k.now) c.loop-at.places) c.as_str.result.now c.loop-at.at q _ none
          (hash_map_updates_str c.as_str.result.now c.loop-at.places c.insert.new.self _ c.in-Ok-None.ensures.updates q)
          ∙ ap (λ o. or_place o c.as_str.result.now c.loop-at.at q) (c.loop-at.invariant.1 q)
          ∙ ap (λ a. or_place (item_place seen (Some q)) a c.loop-at.at q) alias
          ∙ sym (places_more c.args.items.now c.loop-at.at item q (omega arith) c.index-items-at.is)),
    )
