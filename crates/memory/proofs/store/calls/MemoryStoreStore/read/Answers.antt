use Rattle.std.proofs.Common.{rules, List, ℕ, ◌++◌, drop, ap}
use Rattle.memory.specs.Memory.{row_of}
use Rattle.memory.proofs.MemoryLaws.{bytes_shown}
use Rattle.memory.proofs.store.calls.MemoryStoreStore.read.Goals as goal

pub returns-clause-reads : goal.returns-clause-reads
returns-clause-reads c = record {
  checked = search rules;
  fills = bytes_shown (row_of c.args.self.now.memory.now c.args.row) (drop 128 c.args.place.now) _ (ap (λ (b : List ℕ). b ++ drop 128 c.args.place.now) c.load.ensures) c.type_inv.place;
  kept = search rules;
}
