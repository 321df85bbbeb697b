use Rattle.std.proofs.Common.{ℕ, List}
use Rattle.finder.specs.Findings.{find_call}
use Rattle.opening.specs.Replies.{told_claim}
use Rattle.opening.proofs.Rooms.{Call, in_room}
use Rattle.opening.proofs.answer.compared.Goals as goal

pub returns : goal.returns
returns g c =
    let asked = c.args.asked.now in
    let second = c.args.second.now in
    let call : List ℕ → Call =
    find_call g.K.Kind.CAPACITY g.K.Kind.DIGEST g.K.Kind.mapping asked.root.items asked.depth asked.place (told_claim asked.first) asked.first.path.items (told_claim second) second.path.items in
    let size = c.DIGEST-long.ensures in
    let left = rw (size, c.deref.ensures.value, c.opening.ensures.claim, c.opening.ensures.path, c.opening-2.ensures.claim, c.opening-2.ensures.path) at c.find_clash-found.ensures in
    rw size (in_room g.met.K.Kind.sound call _ _ c.find_clash-found.new.out (rw size at c.find_clash-found.auto.out) left)
