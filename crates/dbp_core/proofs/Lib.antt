pub mod RankMasks
