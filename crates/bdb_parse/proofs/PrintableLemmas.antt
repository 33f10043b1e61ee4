-- A command that is read of well spelled tokens is printable.
use Rattle.std.proofs.Common.{ℕ, List, [], ◌∷◌, ◌++◌, Option, sym, subst, inl, inr}
use Rattle.std.specs.Prelude.{codes, IsSomeAnd}
use Rattle.std.specs.List.{AllByRecursion}
use Rattle.bdb_base.specs.declared.kinds.Value.{Value}
use Rattle.bdb_base.specs.declared.kinds.Value.TheVariants as values
use Rattle.bdb_base.specs.declared.kinds.Sign.{Sign}
use Rattle.bdb_base.specs.declared.kinds.ColDef.{ColDef}
use Rattle.bdb_lex.specs.declared.token.Token.{Token}
use Rattle.bdb_lex.specs.declared.token.Token.TheVariants.{Text, Comma, Dot, ParenL, ParenR, Eq}
use Rattle.bdb_syntax.specs.declared.command.RawCol.{RawCol}
use Rattle.bdb_syntax.specs.declared.command.RawSide.{RawSide}
use Rattle.bdb_syntax.specs.declared.command.RawSide.TheVariants as sides
use Rattle.bdb_syntax.specs.declared.command.RawCond.{RawCond}
use Rattle.bdb_syntax.specs.declared.command.RawWho.{RawWho}
use Rattle.bdb_syntax.specs.declared.command.RawWho.TheVariants as whos
use Rattle.bdb_syntax.specs.declared.command.RawItem.{RawItem}
use Rattle.bdb_syntax.specs.declared.command.RawSet.{RawSet}
use Rattle.bdb_syntax.specs.declared.command.RawQuery.{RawQuery}
use Rattle.bdb_syntax.specs.declared.command.Command.{Command}
use Rattle.bdb_syntax.specs.declared.command.Command.TheVariants.{CreateUser, DropUser, CreateRelation, Insert, Delete, Update, Select, Explain, ShowWorld, Why, ShowTables, Undo, Redo}
use Rattle.bdb_syntax.specs.Printable as printable
use Rattle.bdb_parse.specs.Spelled.{AreWellSpelled}
use Rattle.bdb_parse.specs.Grammar.{◌▸◌, IsToken, IsKeyword, IsName, IsKeyClause, IsLiteral, AreSeparated, AreRepeated, IsBelief, IsSign, IsKind, IsColumn, cmp_token, IsBareCol, IsFullCol, IsSide, IsCond, AreConds, IsSet, IsWho, IsItemBelief, IsAlias, IsItem, IsTarget, IsSigned, IsQuery, IsCommand}

both_spelled : (xs ys : List Token) → AreWellSpelled (xs ++ ys) → AreWellSpelled xs × AreWellSpelled ys
both_spelled [] ys h = (tt, h)
both_spelled (x ∷ xs) ys h = let i = both_spelled xs ys h.1 in ((h.0, i.0), i.1)

-- the two halves of well spelled tokens are well spelled
halves : (P Q : List Token → Type 0) (ts : List Token) → (h : (P ▸ Q) ts) → AreWellSpelled ts → AreWellSpelled h.0 × AreWellSpelled h.1
halves P Q ts h w = both_spelled h.0 h.1 (subst AreWellSpelled h.2 w)

name_ok : (n : List ℕ) (ts : List Token) → IsName n ts → AreWellSpelled ts → printable.IsNameWord n
name_ok n ts h w = ((subst AreWellSpelled h.0 w).0, h.1)

text_ok : (t : List ℕ) (ts : List Token) → IsToken (Text t) ts → AreWellSpelled ts → printable.IsContent t
text_ok t ts e w = (subst AreWellSpelled e w).0

literal_ok : (v : Value) (ts : List Token) → IsLiteral v ts → AreWellSpelled ts → printable.IsPrintableValue v
literal_ok (values.Int n) ts h w = tt
literal_ok (values.Text t) ts e w = text_ok t ts e w

separated_ok : {X : Type 0} (P : X → List Token → Type 0) (S : List Token → Type 0) (Q : X → Type 0) → ((x : X) (ts : List Token) → P x ts → AreWellSpelled ts → Q x) → (xs : List X) (ts : List Token) → AreSeparated P S xs ts → AreWellSpelled ts → AllByRecursion Q xs
separated_ok P S Q f [] ts h w = tt
separated_ok P S Q f (x ∷ []) ts h w = (f x ts h w, tt)
separated_ok P S Q f (x ∷ y ∷ xs) ts h w =
    let Rest = AreSeparated P S (y ∷ xs) in
    let a = halves (P x) (S ▸ Rest) ts h w in
    let b = halves S Rest h.1 h.4 a.1 in
    (f x h.0 h.3 a.0, separated_ok P S Q f (y ∷ xs) h.4.1 h.4.4 b.1)

repeated_ok : {X : Type 0} (P : X → List Token → Type 0) (Q : X → Type 0) → ((x : X) (ts : List Token) → P x ts → AreWellSpelled ts → Q x) → (xs : List X) (ts : List Token) → AreRepeated P xs ts → AreWellSpelled ts → AllByRecursion Q xs
repeated_ok P Q f [] ts h w = tt
repeated_ok P Q f (x ∷ xs) ts h w =
    let a = halves (P x) (AreRepeated P xs) ts h w in
    (f x h.0 h.3 a.0, repeated_ok P Q f xs h.1 h.4 a.1)

belief_ok : (user : List ℕ) (ts : List Token) → IsBelief user ts → AreWellSpelled ts → printable.IsContent user
belief_ok user ts h w =
    text_ok user h.1 h.4 (halves (IsKeyword (codes "belief")) (IsToken (Text user)) ts h w).1

column_ok : (c : ColDef) (ts : List Token) → IsColumn c ts → AreWellSpelled ts → printable.IsNameWord c.name
column_ok c ts h w = name_ok c.name h.0 h.3 (halves (IsName c.name) (IsKind c.kind) ts h w).0

bare_ok : (c : RawCol) (ts : List Token) → IsBareCol c ts → AreWellSpelled ts → printable.IsBareColumn c
bare_ok c ts h w = (h.0, name_ok c.col ts h.1 w)

full_ok : (c : RawCol) (ts : List Token) → IsFullCol c ts → AreWellSpelled ts → printable.IsFullColumn c
full_ok c ts h w =
    let a = halves (IsName h.0) (IsToken Dot ▸ IsName c.col) ts h.2 w in
    let b = halves (IsToken Dot) (IsName c.col) h.2.1 h.2.4 a.1 in
    let F : Option (List ℕ) → Type 0 = λ o. IsSomeAnd o printable.IsNameWord in
    (subst F (sym h.1) (name_ok h.0 h.2.0 h.2.3 a.0), name_ok c.col h.2.4.1 h.2.4.4 b.1)

side_ok : (P : RawCol → List Token → Type 0) (Q : RawCol → Type 0) → ((c : RawCol) (ts : List Token) → P c ts → AreWellSpelled ts → Q c) → (s : RawSide) (ts : List Token) → IsSide P s ts → AreWellSpelled ts → printable.IsPrintableSide Q s
side_ok P Q f (sides.Col c) ts h w = f c ts h w
side_ok P Q f (sides.Lit v) ts h w = literal_ok v ts h w

cond_ok : (P : RawCol → List Token → Type 0) (Q : RawCol → Type 0) → ((c : RawCol) (ts : List Token) → P c ts → AreWellSpelled ts → Q c) → (c : RawCond) (ts : List Token) → IsCond P c ts → AreWellSpelled ts → printable.IsPrintableCond Q c
cond_ok P Q f c ts h w =
    let a = halves (P c.left) (IsToken (cmp_token c.cmp) ▸ IsSide P c.right) ts h w in
    let b = halves (IsToken (cmp_token c.cmp)) (IsSide P c.right) h.1 h.4 a.1 in
    (f c.left h.0 h.3 a.0, side_ok P Q f c.right h.4.1 h.4.4 b.1)

conds_ok : (P : RawCol → List Token → Type 0) (Q : RawCol → Type 0) → ((c : RawCol) (ts : List Token) → P c ts → AreWellSpelled ts → Q c) → (cs : List RawCond) (ts : List Token) → AreConds P cs ts → AreWellSpelled ts → AllByRecursion (printable.IsPrintableCond Q) cs
conds_ok P Q f [] ts h w = tt
conds_ok P Q f (c ∷ cs) ts h w =
    let Rest = AreSeparated (IsCond P) (IsKeyword (codes "and")) (c ∷ cs) in
    let a = halves (IsKeyword (codes "where")) Rest ts h w in
    separated_ok (IsCond P) (IsKeyword (codes "and")) (printable.IsPrintableCond Q) (cond_ok P Q f) (c ∷ cs) h.1 h.4 a.1

set_ok : (s : RawSet) (ts : List Token) → IsSet s ts → AreWellSpelled ts → printable.IsPrintableSet s
set_ok s ts h w =
    let a = halves (IsName s.col) (IsToken Eq ▸ IsLiteral s.to) ts h w in
    let b = halves (IsToken Eq) (IsLiteral s.to) h.1 h.4 a.1 in
    (name_ok s.col h.0 h.3 a.0, literal_ok s.to h.4.1 h.4.4 b.1)

who_ok : (x : RawWho) (ts : List Token) → IsWho x ts → AreWellSpelled ts → printable.IsPrintableWho x
who_ok (whos.Name t) ts h w = text_ok t ts h w
who_ok (whos.Col c) ts h w = full_ok c ts h w

item_belief_ok : (x : RawWho) (ts : List Token) → IsItemBelief x ts → AreWellSpelled ts → printable.IsPrintableWho x
item_belief_ok x ts h w =
    who_ok x h.1 h.4 (halves (IsKeyword (codes "belief")) (IsWho x) ts h w).1

alias_ok : (rel alias : List ℕ) (ts : List Token) → printable.IsNameWord rel → IsAlias rel alias ts → AreWellSpelled ts → printable.IsNameWord alias
alias_ok rel alias ts r (inl h) w = subst printable.IsNameWord (sym h.1) r
alias_ok rel alias ts r (inr (inl n)) w = name_ok alias ts n w
alias_ok rel alias ts r (inr (inr h)) w =
    name_ok alias h.1 h.4 (halves (IsKeyword (codes "as")) (IsName alias) ts h w).1

item_ok : (i : RawItem) (ts : List Token) → IsItem i ts → AreWellSpelled ts → printable.IsPrintableItem i
item_ok i ts h w =
    let After = IsAlias i.rel i.alias in
    let a = halves (AreRepeated IsItemBelief i.path) (IsSign i.sign ▸ IsName i.rel ▸ After) ts h w in
    let b = halves (IsSign i.sign) (IsName i.rel ▸ After) h.1 h.4 a.1 in
    let n = h.4.4 in
    let c = halves (IsName i.rel) After h.4.1 n b.1 in
    let rel = name_ok i.rel n.0 n.3 c.0 in
    (repeated_ok IsItemBelief printable.IsPrintableWho item_belief_ok i.path h.0 h.3 a.0, rel, alias_ok i.rel i.alias n.1 rel n.4 c.1)

query_ok : (q : RawQuery) (ts : List Token) → IsQuery q ts → AreWellSpelled ts → printable.IsPrintableQuery q
query_ok q ts h w =
    let Items = AreSeparated IsItem (IsToken Comma) q.items in
    let Conds = AreConds IsFullCol q.conds in
    let Take = AreSeparated IsFullCol (IsToken Comma) q.take in
    let From = IsKeyword (codes "from") in
    let a = halves (IsKeyword (codes "select")) (Take ▸ From ▸ Items ▸ Conds) ts h w in
    let t = h.4 in
    let b = halves Take (From ▸ Items ▸ Conds) h.1 t a.1 in
    let f = t.4 in
    let c = halves From (Items ▸ Conds) t.1 f b.1 in
    let i = f.4 in
    let d = halves Items Conds f.1 i c.1 in (
      separated_ok IsFullCol (IsToken Comma) printable.IsFullColumn full_ok q.take t.0 t.3 b.0,
      separated_ok IsItem (IsToken Comma) printable.IsPrintableItem item_ok q.items i.0 i.3 d.0,
      conds_ok IsFullCol printable.IsFullColumn full_ok q.conds i.1 i.4 d.1,
    )

-- a path, a sign and a relation, and the tokens behind them
target_ok : (users : List (List ℕ)) (sign : Sign) (rel : List ℕ) (After : List Token → Type 0) (ts : List Token) → (h : IsTarget users sign rel After ts) → AreWellSpelled ts → AllByRecursion printable.IsContent users × printable.IsNameWord rel × AreWellSpelled h.4.4.1
target_ok users sign rel After ts h w =
    let a = halves (AreRepeated IsBelief users) (IsSign sign ▸ IsName rel ▸ After) ts h w in
    let b = halves (IsSign sign) (IsName rel ▸ After) h.1 h.4 a.1 in
    let c = halves (IsName rel) After h.4.1 h.4.4 b.1 in
    (repeated_ok IsBelief printable.IsContent belief_ok users h.0 h.3 a.0, name_ok rel h.4.4.0 h.4.4.3 c.0, c.1)

-- what stands in parentheses
inside_ok : (P Q : List Token → Type 0) (ts : List Token) → (h : (IsToken ParenL ▸ P ▸ Q) ts) → AreWellSpelled ts → AreWellSpelled h.4.0
inside_ok P Q ts h w =
    (halves P Q h.1 h.4 (halves (IsToken ParenL) (P ▸ Q) ts h w).1).0

signed_ok : (users : List (List ℕ)) (sign : Sign) (rel : List ℕ) (vals : List Value) (ts : List Token) → IsSigned users sign rel vals ts → AreWellSpelled ts → printable.IsPrintableSigned users rel vals
signed_ok users sign rel vals ts h w =
    let Vals = AreSeparated IsLiteral (IsToken Comma) vals in
    let Body = IsToken ParenL ▸ Vals ▸ IsToken ParenR in
    let t = target_ok users sign rel (IsKeyword (codes "values") ▸ Body) ts h w in
    let v = h.4.4.4 in
    let b = halves (IsKeyword (codes "values")) Body h.4.4.1 v t.2 in
    (t.0, t.1, separated_ok IsLiteral (IsToken Comma) printable.IsPrintableValue literal_ok vals v.4.4.0 v.4.4.3 (inside_ok Vals (IsToken ParenR) v.1 v.4 b.1))

pub parts_ok : (c : Command) (ts : List Token) → IsCommand ts c → AreWellSpelled ts → printable.HasPrintableParts c
parts_ok (CreateUser name) ts h w =
    let a = halves (IsKeyword (codes "create")) (IsKeyword (codes "user") ▸ IsToken (Text name)) ts h w in
    let b = halves (IsKeyword (codes "user")) (IsToken (Text name)) h.1 h.4 a.1 in
    text_ok name h.4.1 h.4.4 b.1
parts_ok (DropUser name) ts h w =
    let a = halves (IsKeyword (codes "drop")) (IsKeyword (codes "user") ▸ IsToken (Text name)) ts h w in
    let b = halves (IsKeyword (codes "user")) (IsToken (Text name)) h.1 h.4 a.1 in
    text_ok name h.4.1 h.4.4 b.1
parts_ok (CreateRelation name cols key) ts h w =
    let Cols = AreSeparated IsColumn (IsToken Comma) cols in
    let After = IsToken ParenR ▸ IsKeyClause key in
    let Body = IsToken ParenL ▸ Cols ▸ After in
    let a = halves (IsKeyword (codes "create")) (IsKeyword (codes "relation") ▸ IsName name ▸ Body) ts h w in
    let b = halves (IsKeyword (codes "relation")) (IsName name ▸ Body) h.1 h.4 a.1 in
    let n = h.4.4 in
    let c = halves (IsName name) Body h.4.1 n b.1 in
    (name_ok name n.0 n.3 c.0, separated_ok IsColumn (IsToken Comma) (λ (x : ColDef). printable.IsNameWord x.name) column_ok cols n.4.4.0 n.4.4.3 (inside_ok Cols After n.1 n.4 c.1))
parts_ok (Insert users sign rel vals) ts h w =
    let Signed = IsSigned users sign rel vals in
    let a = halves (IsKeyword (codes "insert")) (IsKeyword (codes "into") ▸ Signed) ts h w in
    let b = halves (IsKeyword (codes "into")) Signed h.1 h.4 a.1 in
    signed_ok users sign rel vals h.4.1 h.4.4 b.1
parts_ok (Delete users sign rel conds) ts h w =
    let After = AreConds IsBareCol conds in
    let a = halves (IsKeyword (codes "delete")) (IsKeyword (codes "from") ▸ IsTarget users sign rel After) ts h w in
    let b = halves (IsKeyword (codes "from")) (IsTarget users sign rel After) h.1 h.4 a.1 in
    let t = target_ok users sign rel After h.4.1 h.4.4 b.1 in
    (t.0, t.1, conds_ok IsBareCol printable.IsBareColumn bare_ok conds h.4.4.4.4.1 h.4.4.4.4.4 t.2)
parts_ok (Update users sign rel sets conds) ts h w =
    let Sets = AreSeparated IsSet (IsToken Comma) sets in
    let Conds = AreConds IsBareCol conds in
    let After = IsKeyword (codes "set") ▸ Sets ▸ Conds in
    let a = halves (IsKeyword (codes "update")) (IsTarget users sign rel After) ts h w in
    let t = target_ok users sign rel After h.1 h.4 a.1 in
    let s = h.4.4.4.4 in
    let b = halves (IsKeyword (codes "set")) (Sets ▸ Conds) h.4.4.4.1 s t.2 in
    let c = halves Sets Conds s.1 s.4 b.1 in
    (t.0, t.1, separated_ok IsSet (IsToken Comma) printable.IsPrintableSet set_ok sets s.4.0 s.4.3 c.0, conds_ok IsBareCol printable.IsBareColumn bare_ok conds s.4.1 s.4.4 c.1)
parts_ok (Select q) ts h w = query_ok q ts h w
parts_ok (Explain q) ts h w =
    query_ok q h.1 h.4 (halves (IsKeyword (codes "explain")) (IsQuery q) ts h w).1
parts_ok (ShowWorld users) ts h w =
    let a = halves (IsKeyword (codes "show")) (IsKeyword (codes "world") ▸ AreRepeated IsBelief users) ts h w in
    let b = halves (IsKeyword (codes "world")) (AreRepeated IsBelief users) h.1 h.4 a.1 in
    repeated_ok IsBelief printable.IsContent belief_ok users h.4.1 h.4.4 b.1
parts_ok (Why users sign rel vals) ts h w =
    signed_ok users sign rel vals h.1 h.4 (halves (IsKeyword (codes "why")) (IsSigned users sign rel vals) ts h w).1
parts_ok ShowTables ts h w = tt
parts_ok Undo ts h w = tt
parts_ok Redo ts h w = tt
