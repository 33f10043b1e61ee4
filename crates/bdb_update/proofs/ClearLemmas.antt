-- Worlds lose their rows, one after the other.
use Rattle.std.proofs.Common.{◌≡◌, ◌∙◌, ℕ, ◌+◌, arith, ◌≤◌, ◌<◌, Bool, nat_eq, List, [], ◌∷◌, ◌++◌, refl, ap, sym, subst, length, take, get_or, Option, Ok}
use Rattle.std.proofs.lemmas.List.{take_more, take_all}
use Rattle.bdb_base.specs.Causes.{Rises}
use Rattle.bdb_keep.specs.Seen.{Seen}
use Rattle.bdb_tables.specs.Grammar.{InGrammar}
use Rattle.bdb_tables.specs.InUse.{ValKey, val_codec}
use Rattle.bdb_tables.specs.Marks.{Mark}
use Rattle.bdb_tables.specs.Writes.{Gives}
use Rattle.bdb_val.specs.Reads.{HaveTuples}
use Rattle.bdb_val.specs.Counts.{TellsDifferences}
use Rattle.bdb_val.specs.Others.{SamePlacesBut}
use Rattle.bdb_val.specs.Steps.{IsChanging, counted}
use Rattle.bdb_val.specs.WorldCopies.{ClearsWorld, rows_cleared}
use Rattle.bdb_val.proofs.Calls.{HasGone, gone_then, gone_changing}
use Rattle.bdb_update.specs.Parting.{ClearsWorlds, LosesRows, all_cleared}
use Rattle.bdb_tables.specs.Stored.{SameBut}
use Rattle.bdb_update.proofs.CallLemmas.{gone_itself}
use Rattle.bdb_update.proofs.PartRowLemmas.{world_rows_less}
use Rattle.bdb_tables.proofs.SameLemmas.{same_then}

abbrev rows_alone : ℕ → Bool
rows_alone n = nat_eq n 11

push_cleared : (f : ValKey → Option Mark) (ns : List ℕ) (n : ℕ) → all_cleared f (ns ++ n ∷ []) ≡ rows_cleared (all_cleared f ns) n
push_cleared f [] n = refl
push_cleared f (m ∷ ns) n = push_cleared (rows_cleared f m) ns n

-- the first worlds have lost their rows
pub record IsClearing (old now : Seen) (wids : List ℕ) (k count : ℕ) : Type 0 where
  pub gone : HasGone old now
  pub alone : SamePlacesBut rows_alone old.kept now.kept
  pub others : SameBut rows_alone old.kept now.kept
  pub grammar : InGrammar now.kept
  pub tuples : HaveTuples now.kept
  pub cleared : ClearsWorlds old.kept now.kept (take k wids)
  pub rows : LosesRows old.kept now.kept count
  pub writes : Rises count old.writes now.writes

pub clearing_begins : (old : Seen) (wids : List ℕ) → InGrammar old.kept → HaveTuples old.kept → IsClearing old old wids 0 0
clearing_begins old wids g h = record { gone = gone_itself old; others = λ n q out. refl; grammar = g; tuples = h; cleared = λ f g. g; rows = λ f g n c l. record { left = n; rows = c; balance = omega arith }; alone = λ q out. refl; writes = λ small. omega arith }

pub clearing_more : {E : Type 0} (old now new : Seen) (wids : List ℕ) (k n count gone more : ℕ) (fault : E) → IsClearing old now wids k count → k < length wids → n ≡ get_or wids k 0 → more ≡ counted (count + gone)
    → ClearsWorld now.kept new.kept n → SamePlacesBut rows_alone now.kept new.kept → TellsDifferences now new 0 gone → Rises gone now.writes new.writes → InGrammar new.kept → HaveTuples new.kept → IsChanging {T = ℕ} {E = E} now new (Ok gone) fault
    → IsClearing old new wids (k + 1) more
clearing_more old now new wids k n count gone more fault c lt e sum cleared same tells written grammar tuples changing = record {
  gone = gone_then old now new c.gone (gone_changing now new gone fault changing);
  others = same_then rows_alone old.kept now.kept new.kept c.others (λ m q out. same (m ∷ q) out);
  grammar = grammar;
  tuples = tuples;
  cleared = λ f g.
      let before = take k wids in
      subst (λ zs. Gives val_codec new.kept (all_cleared f zs)) (sym (take_more wids k 0 lt ∙ ap (λ z. before ++ z ∷ []) (sym e)))
      (subst (λ (h : ValKey → Option Mark). Gives val_codec new.kept h) (sym (push_cleared f before n)) (cleared (all_cleared f before) (c.cleared f g)));
  rows = λ f g m h l.
      let before = take k wids in
      let first = c.rows f g m h l in
      let balance = first.balance in
      let given = c.cleared f g in
      let next = world_rows_less now new (all_cleared f before) n first.left gone given (cleared (all_cleared f before) given) first.rows (omega arith) same tells in
      let rest = next.balance in
      record { left = next.left; rows = next.rows; balance = omega arith };
  alone = λ q out. same q out ∙ c.alone q out;
  writes = λ small.
      let last = changing.counts.writes in
      let before = c.writes (omega arith) in
      let after = written small in
      omega arith;
}

pub clearing_ends : (old now : Seen) (wids : List ℕ) (k count : ℕ) → IsClearing old now wids k count → length wids ≤ k → ClearsWorlds old.kept now.kept wids
clearing_ends old now wids k count c le f g = subst (λ zs. Gives val_codec now.kept (all_cleared f zs)) (take_all k wids le) (c.cleared f g)
