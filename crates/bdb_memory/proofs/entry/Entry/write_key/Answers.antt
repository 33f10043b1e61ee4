use Rattle.std.proofs.Common.{ℕ, List, ◌++◌, refl, sym, ap, ◌∙◌, append-nil}
use Rattle.bdb_memory.proofs.HeadsLemmas.{key_written}
use Rattle.bdb_memory.proofs.entry.Entry.write_key.Goals as goal

pub returns-then-not-has_rest : goal.returns-then-not-has_rest
returns-then-not-has_rest c =
    let key = c.write.new.key.items in
    key_written key key c.tab-tab.result c.head_with-head.result _ _ _ c.args.self.now c.head_with-head.ensures c.self.view_is c.in_ok-write.ensures
    (sym (ap (λ (rest : List ℕ). key ++ rest) (c.if-not-has_rest.ensures refl) ∙ append-nil key)) c.tab-tab.ensures

pub returns : goal.returns
returns c =
    key_written c.write.new.key.items c.append_rest.new.key.items c.tab-tab.result c.head_with-head.result _ _ _ c.args.self.now c.head_with-head.ensures c.self.view_is c.in_ok-write.ensures c.in_ok-append_rest.ensures.ok c.tab-tab.ensures
