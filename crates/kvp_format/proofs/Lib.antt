pub mod PairLaws
