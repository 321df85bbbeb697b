-- The number, the layer and the values of each denial that the program returns.
use Rattle.std.specs.List.{flat_map}
use Rattle.std.specs.Prelude.{ℕ, List, [], ◌∷◌, Ok, Err, Result, codes, ◌++◌, decimal}
use Rattle.kinds.specs.declared.denial.Denial.{Denial}
use Rattle.kinds.specs.declared.denial.Denial.TheVariants as denial
use Rattle.kinds.specs.declared.denial.Layer.{Layer}
use Rattle.kinds.specs.declared.denial.Layer.TheVariants as layer
use Rattle.kinds.specs.Answers.{Answer, granted, denied}

-- the number of a denial
abbrev pub number_of : Denial → ℕ
number_of denial.DepthTooLarge = 1
number_of denial.NoSuchStation = 2
number_of denial.NoSuchPlace = 3
number_of denial.BadLength = 4
number_of denial.StationBusy = 5
number_of denial.StationIdle = 6
number_of (denial.NotElement i) = 7
number_of denial.RecordFull = 8
number_of denial.RecordShort = 9
number_of denial.BadBuffer = 10
number_of denial.FirstNotAccepted = 11
number_of denial.SecondNotAccepted = 12
number_of denial.OpeningsAlike = 13

-- which part of the software denies
abbrev pub layer_of : Denial → Layer
layer_of denial.DepthTooLarge = layer.Lot
layer_of denial.NoSuchStation = layer.Station
layer_of denial.NoSuchPlace = layer.Lot
layer_of denial.BadLength = layer.Station
layer_of denial.StationBusy = layer.Station
layer_of denial.StationIdle = layer.Station
layer_of (denial.NotElement i) = layer.Word
layer_of denial.RecordFull = layer.Station
layer_of denial.RecordShort = layer.Station
layer_of denial.BadBuffer = layer.Lot
layer_of denial.FirstNotAccepted = layer.Finder
layer_of denial.SecondNotAccepted = layer.Finder
layer_of denial.OpeningsAlike = layer.Finder

-- the name of a layer
abbrev pub layer_word : Layer → List ℕ
layer_word layer.Lot = codes "lot"
layer_word layer.Station = codes "station"
layer_word layer.Word = codes "word"
layer_word layer.Finder = codes "finder"
layer_word layer.Script = codes "script"

-- the index of the first word that is no element
abbrev pub values_of : Denial → List ℕ
values_of denial.DepthTooLarge = []
values_of denial.NoSuchStation = []
values_of denial.NoSuchPlace = []
values_of denial.BadLength = []
values_of denial.StationBusy = []
values_of denial.StationIdle = []
values_of (denial.NotElement i) = i ∷ []
values_of denial.RecordFull = []
values_of denial.RecordShort = []
values_of denial.BadBuffer = []
values_of denial.FirstNotAccepted = []
values_of denial.SecondNotAccepted = []
values_of denial.OpeningsAlike = []

-- what a result tells its caller
abbrev pub told : {A : Type 0} → Result A Denial → Answer
told (Ok x) = granted
told (Err e) = denied (number_of e) (values_of e)

-- how a denial is written: its number, its layer, and the index of a word where there is one
abbrev pub denial_text : Denial → List ℕ
denial_text d = decimal (number_of d) ++ codes " " ++ layer_word (layer_of d) ++ flat_map (λ v. codes " " ++ decimal v) (values_of d)
