-- Line after line, what the lines of a list say.
use Rattle.std.proofs.Common.{◌≡◌, ℕ, false, leb, List, [], ◌∷◌, ◌++◌, length, Ok, sym, ap, subst, arith}
use Rattle.std.proofs.lemmas.Bool.{leb-false}
use Rattle.axi.specs.declared.plan.Plan.{Plan}
use Rattle.listing.specs.Items.{plan_at, item_at, in_force}
use Rattle.listing.specs.Lists.{Said}
use Rattle.listing.specs.Lists.Said.{first, more}
use Rattle.listing.specs.declared.item.Item.{Item}
use Rattle.listing.specs.declared.item.Item.TheVariants.{Bridge}

-- the first line says a plan
pub said_first : (s s' : List ℕ) (none items : List Item) (plan : Plan) (at after : ℕ) → s' ≡ s → at ≡ 0 → none ≡ [] → items ≡ none ++ Bridge plan ∷ [] → plan_at s' at after (Ok plan) → Said s items plan after
said_first s s' none items plan at after same start empty e told = rw (e, empty) (first plan after (subst (λ x. plan_at x 0 after (Ok plan)) same (subst (λ n. plan_at s' n after (Ok plan)) start told)))

-- a line says one item more
pub said_more : (s s' : List ℕ) (items all : List Item) (plan next : Plan) (at after : ℕ) (item : Item) → s' ≡ s → Said s items plan at → false ≡ leb (length s') at → all ≡ items ++ item ∷ [] → next ≡ in_force item → item_at plan s' at after (Ok item) → Said s all next after
said_more s s' items all plan next at after item same said left e f told =
    rw (e, f) (more items plan at item after said (omega (arith, ap length same, leb-false (length s') at (sym left))) (subst (λ x. item_at plan x at after (Ok item)) same told))
