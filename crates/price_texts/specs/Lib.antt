pub mod PriceText
