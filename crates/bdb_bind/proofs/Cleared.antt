-- What holds of a command that no reason refuses.
use Rattle.std.proofs.Common.{◌≡◌, ◌∙◌, ◌≤◌, ℤ, Bool, true, false, length, Option, Some, None, refl, ap}
use Rattle.std.specs.List.{list_all}
use Rattle.std.proofs.lemmas.Bool.{ltb-false, not-false}
use Rattle.bdb_base.specs.declared.kinds.Catalog.{Catalog}
use Rattle.bdb_base.proofs.OptionLemmas.{nothing_mapped}
use Rattle.bdb_syntax.specs.declared.command.Command.{Command}
use Rattle.bdb_bind.specs.declared.bound.BindError.{BindError}
use Rattle.bdb_bind.specs.Lookup.{is_user_name}
use Rattle.bdb_bind.specs.Parts.{path_names, depth_limit, new_columns, new_key, is_long, some_text}
use Rattle.bdb_bind.specs.Firsts.{refused_if, or_next}
use Rattle.bdb_bind.specs.Lines.{has_repeat, is_key_length, key_refused, text_line, items_line, relation_line, user_line, alias_twice_line, alias_line, column_line, taken_line, key_line, repeat_line, deep_line, arity_line, kind_line}
use Rattle.bdb_bind.specs.Refusal.{names_refused, unsafe_line, refusal_of}
use Rattle.bdb_bind.proofs.Founds.{all_pass}

-- no reason applies
pub record IsCleared (catalog : Catalog) (c : Command) : Type 0 where
  pub text : text_line c ≡ None
  pub items : items_line c ≡ None
  pub relation : relation_line catalog c ≡ None
  pub user : user_line catalog c ≡ None
  pub alias_twice : alias_twice_line c ≡ None
  pub alias : alias_line c ≡ None
  pub column : column_line catalog c ≡ None
  pub taken : taken_line catalog c ≡ None
  pub key : key_line c ≡ None
  pub no_repeat : repeat_line c ≡ None
  pub deep : deep_line c ≡ None
  pub arity : arity_line catalog c ≡ None
  pub kinds : kind_line catalog c ≡ None

pub neither : (a b : Option BindError) → or_next a b ≡ None → (a ≡ None) × (b ≡ None)
neither None b e = (refl, e)
neither (Some x) b e = cc

pub not_refused : (t : Bool) (e : BindError) → refused_if t e ≡ None → t ≡ false
not_refused true e h = cc
not_refused false e h = refl

-- neither the names nor the safety are refused
pub both_accepted : (catalog : Catalog) (c : Command) → refusal_of catalog c ≡ None → (names_refused catalog c ≡ None) × (unsafe_line catalog c ≡ None)
unfolding refusal_of
both_accepted catalog c e = neither (names_refused catalog c) (unsafe_line catalog c) e

pub cleared : (catalog : Catalog) (c : Command) → names_refused catalog c ≡ None → IsCleared catalog c
unfolding names_refused
cleared catalog c e =
    let p1 = neither _ _ e in let p2 = neither _ _ p1.1 in let p3 = neither _ _ p2.1 in let p4 = neither _ _ p3.1 in let p5 = neither _ _ p4.1 in let p6 = neither _ _ p5.1 in
    let p7 = neither _ _ p6.1 in let p8 = neither _ _ p7.1 in let p9 = neither _ _ p8.1 in let p10 = neither _ _ p9.1 in let p11 = neither _ _ p10.1 in let p12 = neither _ _ p11.1 in let p13 = neither _ _ p12.1 in
    record {
      text = p1.0;
      items = p2.0;
      relation = p3.0;
      user = p4.0;
      alias_twice = p5.0;
      alias = p6.0;
      column = p7.0;
      taken = p8.0;
      key = p9.0;
      no_repeat = p10.0;
      deep = p11.0;
      arity = p12.0;
      kinds = p13.0;
    }

pub no_long_text : (c : Command) → text_line c ≡ None → some_text is_long c ≡ false
unfolding text_line
no_long_text c e = not_refused _ _ e

pub few_columns : (c : Command) → items_line c ≡ None → length (new_columns c) ≤ 16
unfolding items_line
few_columns c e = ltb-false 16 (length (new_columns c)) (not_refused _ _ (neither _ _ e).0)

-- the length of a new relation's key, where one is said, is from 1 to the number of columns
pub key_told : (c : Command) (n : ℤ) → Some n ≡ new_key c → key_line c ≡ None → is_key_length (length (new_columns c)) n ≡ true
unfolding key_line
key_told c n said e =
    let told : key_refused (new_columns c) (Some n) ≡ None = ap (key_refused (new_columns c)) said ∙ e in
    not-false _ (not_refused _ _ told)

pub users_known : (catalog : Catalog) (c : Command) → user_line catalog c ≡ None → list_all (is_user_name catalog.users) (path_names c) ≡ true
unfolding user_line
users_known catalog c e = all_pass (is_user_name catalog.users) (path_names c) (nothing_mapped _ _ (neither _ _ e).0)

pub names_apart : (c : Command) → repeat_line c ≡ None → has_repeat (path_names c) ≡ false
unfolding repeat_line
names_apart c e = not_refused _ _ (neither _ _ e).0

pub not_deep : (c : Command) → deep_line c ≡ None → length (path_names c) ≤ depth_limit c
unfolding deep_line
not_deep c e = ltb-false (depth_limit c) (length (path_names c)) (not_refused _ _ (neither _ _ e).0)
