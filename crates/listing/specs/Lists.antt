-- What a whole list comes to.
use Rattle.std.specs.Prelude.{ℕ, ◌⊎◌, ◌<◌, ◌≤◌, List, [], ◌∷◌, ◌++◌, length, Ok, Err}
use Rattle.axi.specs.declared.plan.Plan.{Plan}
use Rattle.listing.specs.Items.{plan_at, item_at, in_force}
use Rattle.listing.specs.declared.item.Item.{Item}
use Rattle.listing.specs.declared.item.Item.TheVariants.{Bridge}
use Rattle.listing.specs.declared.refusal.ListFault.{ListFault}
use Rattle.listing.specs.declared.refusal.ListFault.TheVariants.{Line, NoMemory}
use Rattle.listing.specs.declared.refusal.Refusal.{Refusal}

-- the lines before a place say these items, and this plan is in force there: the first line is a plan, each other line is read under the plan in force
pub data Said (s : List ℕ) : List Item → Plan → ℕ → Type 0 where
  first : (plan : Plan) (after : ℕ) → plan_at s 0 after (Ok plan) → Said s (Bridge plan ∷ []) plan after
  more : (items : List Item) (plan : Plan) (at : ℕ) (item : Item) (after : ℕ) → Said s items plan at → at < length s → item_at plan s at after (Ok item) → Said s (items ++ item ∷ []) (in_force item) after

-- the lines of the list say these items
abbrev pub Says : List ℕ → List Item → Type 0
Says s items = (plan : Plan) × (end : ℕ) × Said s items plan end × (length s ≤ end)

-- the first line is refused, or a line is after lines that say something
abbrev pub LineRefused : List ℕ → Refusal → Type 0
LineRefused s x = plan_at s 0 0 (Err x) ⊎ ((items : List Item) × (plan : Plan) × (at : ℕ) × Said s items plan at × (at < length s) × item_at plan s at at (Err x))

-- the list is refused: at the first line that is, unless memory runs out
abbrev pub Refuses : List ℕ → ListFault → Type 0
Refuses s (Line x) = LineRefused s x
Refuses s NoMemory = Unit {0}
